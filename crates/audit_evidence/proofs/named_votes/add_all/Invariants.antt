use Rattle.std.proofs.Common.{take}
use Rattle.std.specs.List.{Contains}
use Rattle.audit_evidence.specs.Gathering.{Gains}
use Rattle.audit_evidence.proofs.named_votes.add_all.Given as goal

abbrev pub invariant-loop-vote : goal.invariant-loop-vote
invariant-loop-vote l = Gains l.fn.votes l.votes (Contains (take l.vote-index l.more))
