use Rattle.std.proofs.Common.{◌≡◌, take}
use Rattle.watch_desk.specs.Sources.{top_from}
use Rattle.watch_desk.proofs.votes.top_from.Given as goal

abbrev pub invariant-loop-vote : goal.invariant-loop-vote
invariant-loop-vote l = l.top ≡ top_from l.from (take l.vote-index l.votes)
