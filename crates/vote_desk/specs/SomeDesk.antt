-- What a call does under a desk's lock. No clause can name the desk that stood there then, so clauses say that some desk of
-- the same name answers so.
use Rattle.std.specs.Prelude.{◌≡◌, ℕ, List, IfSome}
use Rattle.blocks.specs.Genesis.{genesis_of}
use Rattle.blocks.specs.Headers.{Header}
use Rattle.blocks.specs.Replica.{Stored}
use Rattle.certificates.specs.BlockChecks.{CheckedBlock}
use Rattle.stable_log.specs.declared.disk.Disk.{Ghosts}
use Rattle.vote_desk.specs.declared.desk_error.DeskError.{DeskError}
use Rattle.vote_desk.specs.declared.desk_error.DeskError.TheVariants.{Stopped}
use Rattle.vote_desk.specs.declared.reply.Reply.{Reply}
use Rattle.vote_desk.specs.Deliveries.{BoundsIndices, IsDelivered, IsLeftAfter, RunsOn}
use Rattle.vote_desk.specs.DeskRefusals.{IsDeskRefusal, IsRunning, IsStopped}
use Rattle.vote_desk.specs.Desks.{DeskView, KeepsDesk, timed_out_at}
use Rattle.vote_desk.specs.Stays.{IsStay}

-- ---- some desk

-- a desk of this committee, replica and opening list: it keeps what a desk keeps, and is a stay of its replica's life
pub record IsDeskOf {D : Type 0} (disk : Ghosts D) (committee : List ℕ) (replica : ℕ) (opening : List Stored) (d : DeskView D) : Type 0 where
  pub keeps : KeepsDesk disk.bytes disk.images committee replica opening d
  pub stay : IsStay disk.bytes disk.images (genesis_of committee) opening d

-- some such desk is so
pub record SomeDesk {D : Type 0} (IsDesk Is : DeskView D → Type 0) : Type 0 where
  pub desk : DeskView D
  pub is_desk : IsDesk desk
  pub is : Is desk

-- some such desk moves so to another
pub record SomeDeskMoves {D : Type 0} (IsDesk : DeskView D → Type 0) (Moves : (old new : DeskView D) → Type 0) : Type 0 where
  pub old : DeskView D
  pub new : DeskView D
  pub before : IsDesk old
  pub later : IsDesk new
  pub moves : Moves old new

-- ---- deliveries

-- the block's one event answers so, and no disk fails
pub record Replies {D : Type 0} (disk : Ghosts D) (committee : List ℕ) (replica : ℕ) (b : CheckedBlock) (reply : Reply) (old new : DeskView D) : Type 0 where
  pub delivered : IsDelivered disk.bytes committee replica old new b reply
  pub runs_on : RunsOn disk old new
  pub not_again : IfSome (disk.bytes old.indices.disk) (λ _. BoundsIndices disk old.indices new.indices)

-- .. behind a timeout of the block's view
abbrev pub RepliesUnvoted : {D : Type 0} → Ghosts D → List ℕ → ℕ → CheckedBlock → Reply → (old new : DeskView D) → Type 0
RepliesUnvoted disk committee replica b reply old new = Replies disk committee replica b reply (timed_out_at old b.header.view) new

-- the desk refuses so, and is left so
pub record Refuses {D : Type 0} (disk : Ghosts D) (b : Header) (e : DeskError) (old new : DeskView D) : Type 0 where
  pub refused : IsDeskRefusal old b e
  pub left : IsLeftAfter disk.failed old new e
  pub not_again : IfSome (disk.bytes old.indices.disk) (λ _. BoundsIndices disk old.indices new.indices)

-- .. behind a timeout of the block's view, which a stopped desk does not take
abbrev pub RefusesUnvoted : {D : Type 0} → Ghosts D → Header → DeskError → (old new : DeskView D) → Type 0
RefusesUnvoted disk b Stopped old new = IsStopped old × (new ≡ old)
RefusesUnvoted disk b e old new = Refuses disk b e (timed_out_at old b.view) new

-- ---- timeouts

-- a desk that runs gives up on all views up to this one, and nothing else of it changes
pub record TimesOut {D : Type 0} (view : ℕ) (old new : DeskView D) : Type 0 where
  pub running : IsRunning old
  pub moved : new ≡ timed_out_at old view
