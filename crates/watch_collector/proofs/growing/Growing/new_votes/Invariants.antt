use Rattle.std.proofs.Common.{take}
use Rattle.watch_collector.specs.Growing.{AreTheNewOf}
use Rattle.watch_collector.proofs.growing.Growing.new_votes.Given as goal

abbrev pub invariant-loop-vote : goal.invariant-loop-vote
invariant-loop-vote l = AreTheNewOf l.self.votes (take l.vote-index l.votes) l.new.items
