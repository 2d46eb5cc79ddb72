use Rattle.std.proofs.Common.{subst, sym}
use Rattle.std.specs.List.{All}
use Rattle.std.proofs.lemmas.List.Elements.{All-append}
use Rattle.verdict_format.specs.Proofs.{IsProof}
use Rattle.watch_desk.specs.Verdicts.{unnamed}
use Rattle.watch_desk.proofs.HeardAudits.{unnamed_all}
use Rattle.watch_desk.proofs.laws.what_is_served_is_a_proof.Goals as goal

pub returns : goal.returns
returns c e r old new heard h found known =
    subst (All (IsProof e.committee)) (sym h.verdicts)
    (All-append (IsProof e.committee) old.verdicts (unnamed old.verdicts r.verdicts) known (unnamed_all (IsProof e.committee) old.verdicts r.verdicts found))
