use Rattle.std.proofs.Common.{take}
use Rattle.watch_desk.specs.Sources.{AreTheBad}
use Rattle.watch_desk.proofs.votes.bad_votes.Given as goal

abbrev pub invariant-loop-vote : goal.invariant-loop-vote
invariant-loop-vote l = AreTheBad l.collector.gathered.committee (take l.vote-index l.votes) l.bad.items
