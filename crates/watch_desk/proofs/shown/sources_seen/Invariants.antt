use Rattle.std.proofs.Common.{◌≡◌, take}
use Rattle.std.specs.Prelude.{map}
use Rattle.watch_desk.specs.Shown.{IsShownAt, known_facts, seen_facts}
use Rattle.watch_desk.specs.Taking.{AllAt}
use Rattle.watch_desk.proofs.shown.sources_seen.Given as goal

abbrev pub invariant-loop-i : goal.invariant-loop-i
invariant-loop-i l = (map seen_facts l.seen.items ≡ map (known_facts l.reports) (take l.i l.sources)) × AllAt (IsShownAt l.places) l.seen.items
