use Rattle.std.proofs.Common.{◌∙◌, refl, sym}
use Rattle.parallel_verify.proofs.keeping.KeepingKeeperNumber.certificate.Goals as goal

pub returns-then-are_of : goal.returns-then-are_of
returns-then-are_of g c = sym c.get.ensures ∙ c.if-are_of.ensures.0 refl
