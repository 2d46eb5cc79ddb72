use Rattle.std.proofs.Common.{◌∙◌}
use Rattle.log_format.specs.EntryReading.{block_in, parent_in}
use Rattle.log_format.proofs.EntryParts.{read_header}
use Rattle.log_format.proofs.entry.headers_in.Goals as goal

pub returns-clause-some : goal.returns-clause-some
unfolding block_in parent_in
returns-clause-some c = (c.of.ensures ∙ read_header _ _ c.in-Ok.ensures.first_refusal, read_header _ _ c.in-Ok-from_bytes.ensures.first_refusal)
