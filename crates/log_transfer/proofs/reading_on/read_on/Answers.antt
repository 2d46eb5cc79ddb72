use Rattle.std.proofs.Common.{◌≤◌, ◌-◌, List, ℕ, length, drop, subst}
use Rattle.std.proofs.lemmas.List.{take_rest}
use Rattle.log_transfer.specs.Pulled.{IsTaken}
use Rattle.log_transfer.proofs.Feeding.{pulled_on}
use Rattle.log_transfer.proofs.reading_on.read_on.Goals as goal

pub returns-in_ok-taken-in-From-clause-ok : goal.returns-in_ok-taken-in-From-clause-ok
returns-in_ok-taken-in-From-clause-ok c = λ stream a.
    let text = c.args.text.now in
    let at = c.in-From.at in
    let left = c.in_ok-taken-in-From.taken.left in
    let old = c.args.frames.now.items in
    let new = c.take_frames.new.frames.items in
    let ended = c.in_ok-taken-in-From.taken.ended in
    let taken = subst (λ (t : List ℕ). IsTaken c.args.held t old new (drop (length t - left) t) ended) (take_rest text at) c.in_ok-taken-in-From.ensures.ok in
    let within = subst (λ (t : List ℕ). left ≤ length t) (take_rest text at) c.in_ok-taken-in-From.ensures.within in
    pulled_on c.args.held stream c.args.begun old new text at left ended c.in-From.ensures within taken a
