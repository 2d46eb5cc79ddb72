use Rattle.std.proofs.Common.{◌≡◌, ◌∙◌, List, ℕ, subst}
use Rattle.std.specs.Prelude.{IsTrue}
use Rattle.log_reading.proofs.Digests.{equals}
use Rattle.log_reading.proofs.kept_log.KeptLog.is.Goals as goal

pub returns : goal.returns
returns c =
    let r = c.eq.result in
    let other = c.args.digests.now in
    subst (λ (log : List (List ℕ)). (IsTrue r → log ≡ other) × (log ≡ other → IsTrue r)) (c.as_slice.ensures.value ∙ c.self.view_is)
    (equals c.as_slice.result.now other r c.eq.ensures)
