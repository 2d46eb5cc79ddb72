use Rattle.std.proofs.Common.{◌≢◌, take}
use Rattle.std.specs.List.{All}
use Rattle.handover_renewals.specs.Endorsed.{replica_of, texts_of}
use Rattle.handover_renewals.proofs.endorsements.place_of.Given as goal

abbrev pub invariant-loop-k : goal.invariant-loop-k
invariant-loop-k l = All (λ e. replica_of e ≢ l.replica) (take l.k (texts_of l.endorsements))
