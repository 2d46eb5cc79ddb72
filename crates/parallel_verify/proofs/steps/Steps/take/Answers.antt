use Rattle.std.proofs.Common.{◌≡◌, ◌↔◌, ◌∙◌, ◌||◌, sym, ap}
use Rattle.std.specs.Prelude.{IsTrue}
use Rattle.blocks.specs.Replay.{IsLegalEntry}
use Rattle.blocks.specs.Replica.{Stored}
use Rattle.std.proofs.lemmas.Bool.{false≢true}
use Rattle.parallel_verify.proofs.Replaying.{or_second, or_true, replayed_more, some_is}
use Rattle.parallel_verify.proofs.steps.Steps.take.Goals.{then-self, else-self, then-self-2, else-self-2}
use Rattle.parallel_verify.proofs.steps.Steps.take.Goals as goal

pub returns-after-self-2 : goal.returns-after-self-2
returns-after-self-2 c = λ genesis frames spells so_far.
    let s = c.args.self.now in
    let x = c.in-Some.step in
    let legal : IsTrue c.if-self.self ↔ (IsTrue s.are_legal × IsLegalEntry s.left x.voted x.block x.parent) = elim c.if-self.branch [
      | then-self w ↦ (λ t. (w.if-self.true, w.allows-self.ensures.0 (sym w.self-is ∙ t)), λ p. w.self-is ∙ w.allows-self.ensures.1 p.1)
      | else-self w ↦ (λ t. absurd (false≢true (sym w.if-self.false ∙ sym w.self-is ∙ t)), λ p. absurd (false≢true (sym w.if-self.false ∙ p.0)))
    ] in
    let voted : c.if-self-2.self ≡ s.has_voted || x.voted = elim c.if-self-2.branch [
      | then-self-2 w ↦ w.self-is ∙ or_true s.has_voted x.voted w.if-self-2.true
      | else-self-2 w ↦ w.self-is ∙ ap (λ (y : Stored). y.voted) c.step-in-Some.view_is ∙ or_second s.has_voted x.voted w.if-self-2.false
    ] in
    replayed_more genesis frames c.args.frame.now s _ x (some_is x _ (c.in-Some.ensures spells)) so_far legal c.take.ensures voted
