use Rattle.std.proofs.Common.{take}
use Rattle.std.specs.List.{Contains}
use Rattle.watch_desk.specs.Sources.{GainsOnce}
use Rattle.watch_desk.proofs.votes.add_each.Given as goal

abbrev pub invariant-loop-vote : goal.invariant-loop-vote
invariant-loop-vote l = GainsOnce l.initial.list.items l.list.items (Contains (take l.vote-index l.votes))
