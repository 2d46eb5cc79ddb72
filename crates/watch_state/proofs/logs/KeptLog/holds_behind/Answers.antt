use Rattle.std.proofs.Common.{◌≡◌, ◌∙◌, ◌≤◌, ◌-◌, List, ℕ, ap, arith, drop, length, length-drop, subst, take, take_all}
use Rattle.std.specs.Prelude.{IsTrue}
use Rattle.log_reading.specs.Following.{BeginsWith}
use Rattle.log_reading.proofs.Digests.{begins}
use Rattle.watch_state.proofs.logs.KeptLog.holds_behind.Goals as goal

pub returns : goal.returns
returns c =
    let r = c.starts_with.result in
    let frames = c.args.frames.now in
    let place = c.args.place in
    let log = c.deref.result.now in
    let few : length (drop place log) ≤ length log - place = omega (arith, length-drop place log) in
    let whole : take (length log - place) (drop place log) ≡ drop place log = take_all (length log - place) (drop place log) few in
    subst (λ (behind : List (List ℕ)). (IsTrue r → BeginsWith frames behind) × (BeginsWith frames behind → IsTrue r))
    (whole ∙ ap (λ (l : List (List ℕ)). drop place l) (c.deref.ensures.value ∙ c.self.view_is))
    (begins frames (take (length log - place) (drop place log)) r c.starts_with.ensures.value)
