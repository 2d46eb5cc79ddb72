-- A delivery that leaves something for later: where no more is left than is to be spared, no index is drawn for a vote.
use Rattle.std.specs.Prelude.{◌≢◌, ◌⊎◌, ◌&&◌, ℕ, List, Bool, IsFalse, IsTrue, nat_lt, if◌then◌else◌}
use Rattle.blocks.specs.Headers.{Header}
use Rattle.certificates.specs.BlockChecks.{CheckedBlock}
use Rattle.replica_core.specs.declared.plan.Act.TheVariants.{Vote}
use Rattle.stable_log.specs.declared.disk.Disk.{Ghosts}
use Rattle.vote_desk.specs.declared.desk_error.DeskError.{DeskError}
use Rattle.vote_desk.specs.declared.parts.Left.{Left}
use Rattle.vote_desk.specs.declared.reply.Reply.{Reply}
use Rattle.vote_desk.specs.Deliveries.{act_of}
use Rattle.vote_desk.specs.Desks.{DeskView, left_of, timed_out_at}
use Rattle.vote_desk.specs.SomeDesk.{Refuses, RefusesUnvoted, Replies, RepliesUnvoted}

-- more is left than is to be spared, of both
abbrev pub has_more : Left → Left → Bool
has_more left spare = nat_lt spare.indices left.indices && nat_lt spare.entries left.entries

-- a desk has more left
abbrev pub has_more_at : {D : Type 0} → DeskView D → Left → Bool
has_more_at d spare = has_more (left_of d) spare

-- the desk as a block in this view meets it: as it is where it has more left, and else behind a timeout of the view
abbrev pub met_sparing : {D : Type 0} → DeskView D → Left → ℕ → DeskView D
met_sparing d spare view = if has_more_at d spare then d else timed_out_at d view

-- a block is delivered by its one event where more is left, and else behind a timeout of its view, so that the reply is no vote
abbrev pub RepliesSparing : {D : Type 0} → Ghosts D → List ℕ → ℕ → Left → CheckedBlock → Reply → (old new : DeskView D) → Type 0
RepliesSparing disk committee replica spare b reply old new =
    (IsTrue (has_more_at old spare) × Replies disk committee replica b reply old new)
    ⊎ (IsFalse (has_more_at old spare) × (act_of reply.act ≢ Vote) × RepliesUnvoted disk committee replica b reply old new)

abbrev pub RefusesSparing : {D : Type 0} → Ghosts D → Left → Header → DeskError → (old new : DeskView D) → Type 0
RefusesSparing disk spare b e old new =
    (IsTrue (has_more_at old spare) × Refuses disk b e old new)
    ⊎ (IsFalse (has_more_at old spare) × RefusesUnvoted disk b e old new)
