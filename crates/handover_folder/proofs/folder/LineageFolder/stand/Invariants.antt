use Rattle.blocks.specs.Committees.{IsCommittee}
use Rattle.handover_folder.proofs.folder.LineageFolder.stand.Given as goal

abbrev pub invariant-loop : goal.invariant-loop
invariant-loop g l = IsCommittee l.at.committee.items
