use Rattle.std.proofs.lemmas.List.Elements.{All-push}
use Rattle.verdict_format.specs.Proofs.{IsProof}
use Rattle.watch_desk.proofs.kept.KeptVerdicts.judge.Goals as goal

pub invariant_of-self-in-Some : goal.invariant_of-self-in-Some
invariant_of-self-in-Some c =
    rw c.in_ok-push-in-Some.ensures.items
    (All-push (IsProof c.self.inside.committee) c.self.inside.verdicts.items c.in_ok-new-in-Some.field-0 c.self.invariant (rw c.in_ok-new-in-Some.ensures c.in-Some.ensures.1.0))
