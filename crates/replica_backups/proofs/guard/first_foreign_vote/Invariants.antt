use Rattle.std.proofs.Common.{take}
use Rattle.std.specs.List.{All}
use Rattle.replica_backups.specs.OwnVotes.{IsFamiliar}
use Rattle.replica_backups.proofs.guard.first_foreign_vote.Given as goal

abbrev pub invariant-loop-k : goal.invariant-loop-k
invariant-loop-k l = All (IsFamiliar l.replica l.own) (take l.k l.votes)
