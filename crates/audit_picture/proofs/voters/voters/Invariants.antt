use Rattle.std.proofs.Common.{◌≡◌, ◌≤◌}
use Rattle.blocks.specs.Headers.{header_id}
use Rattle.blocks.specs.Weights.{weight_of}
use Rattle.audit_commits.specs.Commits.{has_vote}
use Rattle.audit_picture.specs.Standings.{once}
use Rattle.audit_picture.proofs.voters.voters.Given as goal

abbrev pub invariant-loop-replica : goal.invariant-loop-replica
invariant-loop-replica l = record {
  count : l.count ≡ weight_of once (has_vote l.votes l.b.view (header_id l.b)) l.replica;
  most : l.count ≤ l.replica;
}
