-- Where one word leads.
use Rattle.blocks.specs.Committees.{IsCommittee}
use Rattle.handover_folder.specs.declared.standing.Step.{Step}
use Rattle.handover_folder.specs.declared.standing.Step.TheVariants.{Over, Stands}

-- to a committee, or nowhere
abbrev pub IsStep : Step → Type 0
IsStep (Over next) = IsCommittee next.committee.items
IsStep (Stands here) = IsCommittee here.committee.items
