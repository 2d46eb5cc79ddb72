use Rattle.std.proofs.Common.{◌∙◌, ap, subst, sym}
use Rattle.std.proofs.lemmas.List.Elements.{All-get_or}
use Rattle.watch_report.specs.Proved.{IsProved}
use Rattle.watch_desk.specs.Shown.{IsFiledAt, culprit_facts, verdict_facts}
use Rattle.watch_desk.proofs.Showing.{shown_more}
use Rattle.watch_desk.proofs.shown.culprits_seen.Goals as goal

pub culprit_seen-requires : goal.culprit_seen-requires
culprit_seen-requires c =
    let known = c.index-verdicts-i.result in
    subst IsProved (sym c.get.ensures) (subst IsProved (sym c.index-verdicts-i.is) (All-get_or IsProved c.args.verdicts.now c.loop-i.i known c.loop-i-test.true c.requires))

pub loop-i-preserved : goal.loop-i-preserved
loop-i-preserved c =
    let committee = c.args.committee.now in
    rw c.in_ok-push.ensures.items
    (shown_more culprit_facts (verdict_facts committee) (IsFiledAt c.args.places.now) c.loop-i.seen.items c.args.verdicts.now c.loop-i.i c.in_ok-culprit.culprit c.index-verdicts-i.result c.loop-i-test.true c.index-verdicts-i.is c.loop-i.invariant
    (c.in_ok-culprit.ensures.facts ∙ ap (verdict_facts committee) c.get.ensures) c.in_ok-culprit.ensures.stored)
