use Rattle.std.proofs.Common.{arith, ap, ◌∙◌}
use Rattle.base_wire.proofs.Needs.{if_ok}
use Rattle.blocks.specs.HeaderReading.{header_in}
use Rattle.blocks.proofs.HeaderLaws.{header_found, header_again}
use Rattle.blocks.proofs.header.Header.from_bytes.Goals as goal

pub returns-clause-found : goal.returns-clause-found
returns-clause-found c = if_ok _ _ _ c.read.ensures (λ h e. header_found _ h (λ i. omega (arith, c.type_inv.bytes i)) e)

pub returns-clause-only : goal.returns-clause-only
returns-clause-only c h is e = c.read.ensures ∙ ap header_in e ∙ header_again h is
