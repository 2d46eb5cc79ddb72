use Rattle.std.proofs.Common.{◌∙◌}
use Rattle.blocks.proofs.CommitteeLaws.{key_told}
use Rattle.blocks.proofs.committee.is_key.Goals as goal

pub returns : goal.returns
returns c = c.is_ok.ensures.value ∙ key_told c.args.key.now c.parse.result c.requires c.parse.ensures.exact
