use Rattle.std.proofs.Common.{List, ℕ, subst}
use Rattle.std.specs.Prelude.{IsTrue}
use Rattle.log_reading.specs.Following.{BeginsWith, Followed}
use Rattle.log_reading.proofs.Digests.{begins}
use Rattle.log_reading.proofs.following.SourceLogs.keeps.Goals as goal

pub returns : goal.returns
returns c =
    let r = c.starts_with.result in
    subst (λ (s : Followed). (IsTrue r → BeginsWith s.before s.present) × (BeginsWith s.before s.present → IsTrue r)) c.self.view_is
    (subst (λ (with : List (List ℕ)). (IsTrue r → BeginsWith with c.self.inside.present.items) × (BeginsWith with c.self.inside.present.items → IsTrue r)) c.deref-2.ensures.value
    (subst (λ (log : List (List ℕ)). (IsTrue r → BeginsWith c.deref-2.result.now log) × (BeginsWith c.deref-2.result.now log → IsTrue r)) c.deref.ensures.value
    (begins c.deref-2.result.now c.deref.result.now r c.starts_with.ensures.value)))
