use Rattle.std.proofs.Common.{◌∙◌, List, ℕ, refl, subst}
use Rattle.std.specs.Prelude.{IsTrue}
use Rattle.std.proofs.lemmas.Bool.{false≢true}
use Rattle.log_reading.specs.Following.{BeginsWith}
use Rattle.log_reading.proofs.Digests.{begins, begins_one_less, begins_one_more, begins_there}
use Rattle.log_reading.proofs.kept_log.KeptLog.begins_with.Goals as goal

pub returns-then-not-has_at : goal.returns-then-not-has_at
returns-then-not-has_at c = (λ t. absurd (false≢true t), λ w. c.if-not-has_at.ensures.1 (begins_there c.args.front.now c.args.self.now c.args.next.now w))

pub returns : goal.returns
returns c =
    let front = c.args.front.now in
    let next = c.args.next.now in
    let log = c.args.self.now in
    let r = c.starts_with.result in
    let b : (IsTrue r → BeginsWith front log) × (BeginsWith front log → IsTrue r) =
    subst (λ (l : List (List ℕ)). (IsTrue r → BeginsWith front l) × (BeginsWith front l → IsTrue r)) (c.deref.ensures.value ∙ c.self.view_is)
    (begins front c.deref.result.now r c.starts_with.ensures.value) in
    (λ t. begins_one_more front log next (c.if-not-has_at.ensures.0 refl) (b.0 t), λ w. b.1 (begins_one_less front log next w))
