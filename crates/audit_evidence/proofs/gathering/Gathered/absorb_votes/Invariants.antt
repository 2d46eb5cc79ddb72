use Rattle.std.proofs.Common.{take}
use Rattle.std.specs.List.{Contains}
use Rattle.audit_evidence.specs.Gathering.{Grows}
use Rattle.audit_evidence.specs.Gathering.{IsNone}
use Rattle.audit_evidence.proofs.gathering.Gathered.absorb_votes.Given as goal

abbrev pub invariant-loop-vote : goal.invariant-loop-vote
invariant-loop-vote g l = Grows l.fn.self l.self IsNone (Contains (take l.vote-index l.votes))
