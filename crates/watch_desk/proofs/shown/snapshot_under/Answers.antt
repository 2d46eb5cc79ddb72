use Rattle.std.proofs.Common.{◌≡◌, ◌∙◌, ap, subst, sym}
use Rattle.std.specs.List.{All}
use Rattle.std.proofs.lemmas.List.Elements.{All-weaker}
use Rattle.verdict_format.specs.Proofs.{IsProof}
use Rattle.watch_report.specs.Proved.{IsProved}
use Rattle.watch_desk.specs.Hearing.{Told}
use Rattle.watch_desk.proofs.Showing.{shown_are_known}
use Rattle.watch_desk.proofs.shown.snapshot_under.Goals as goal

pub culprits_seen-requires : goal.culprits_seen-requires
culprits_seen-requires c =
    let desk = c.args.desk.now in
    let committee = desk.collected.gathered.committee in
    let is : c.verdicts.result.now ≡ desk.told.verdicts = c.verdicts.ensures ∙ ap (λ (t : Told). t.verdicts) c.told-told.ensures.value in
    subst (All IsProved) (sym is) (All-weaker (IsProof committee) IsProved (λ bytes p. (committee, p)) desk.told.verdicts c.told-told.ensures.proofs)

pub returns-clause-accepted : goal.returns-clause-accepted
returns-clause-accepted c =
    let desk = c.args.desk.now in
    let committee = desk.collected.gathered.committee in
    let is : c.verdicts.result.now ≡ desk.told.verdicts = c.verdicts.ensures ∙ ap (λ (t : Told). t.verdicts) c.told-told.ensures.value in
    let shown = shown_are_known c.args.committee.now c.in_ok-culprits.culprits.items c.verdicts.result.now c.in_ok-culprits.ensures.facts in
    subst (All (IsProof committee)) (sym (shown ∙ is)) c.told-told.ensures.proofs
