use Rattle.std.specs.List.{All}
use Rattle.handover_proof.specs.Proofs.{MayBeAssembled}
use Rattle.handover_proof.proofs.entries.votes_on.Given as goal

abbrev pub invariant-loop-replica : goal.invariant-loop-replica
invariant-loop-replica l = All (MayBeAssembled l.committee) l.votes.items
