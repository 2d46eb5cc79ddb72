use Rattle.std.proofs.Common.{◌∙◌, List, ℕ, subst}
use Rattle.std.specs.Prelude.{IsTrue}
use Rattle.log_reading.specs.Following.{BeginsWith}
use Rattle.log_reading.proofs.Digests.{begins}
use Rattle.watch_state.proofs.logs.KeptLog.begins.Goals as goal

pub returns : goal.returns
returns c =
    let r = c.starts_with.result in
    let frames = c.args.frames.now in
    subst (λ (log : List (List ℕ)). (IsTrue r → BeginsWith log frames) × (BeginsWith log frames → IsTrue r)) (c.deref.ensures.value ∙ c.self.view_is)
    (begins c.deref.result.now frames r c.starts_with.ensures.value)
