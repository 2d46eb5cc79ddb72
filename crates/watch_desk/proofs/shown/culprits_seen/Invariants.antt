use Rattle.std.proofs.Common.{◌≡◌, take}
use Rattle.std.specs.Prelude.{map}
use Rattle.watch_desk.specs.Shown.{IsFiledAt, culprit_facts, verdict_facts}
use Rattle.watch_desk.specs.Taking.{AllAt}
use Rattle.watch_desk.proofs.shown.culprits_seen.Given as goal

abbrev pub invariant-loop-i : goal.invariant-loop-i
invariant-loop-i l = (map culprit_facts l.seen.items ≡ map (verdict_facts l.committee) (take l.i l.verdicts)) × AllAt (IsFiledAt l.places) l.seen.items
