-- What receipts of released votes say of what is found under a desk's lock.
use Rattle.std.specs.Prelude.{◌≡◌, ◌⊎◌, ℕ, List, Option}
use Rattle.vote_log.specs.declared.log_error.LogError.{LogError}
use Rattle.vote_log.specs.declared.log_error.LogError.TheVariants.{BadEntry}
use Rattle.stable_log.specs.declared.disk.Disk.{Ghosts}
use Rattle.vote_desk.specs.declared.reply.Receipt.{Receipt}
use Rattle.vote_desk.specs.Desks.{DeskView}
use Rattle.vote_desk.specs.SomeDesk.{SomeDesk, SomeDeskMoves}
use Rattle.vote_desk.specs.Votes.{IsNotFound, IsVoteFound, RefusesVoteIn}

-- in this view some desk's log gives another vote than one of these receipts, or none: the entry of the receipt's number
-- is bad
pub record IsOtherThanReleased {D : Type 0} (disk : Ghosts D) (IsDesk : DeskView D → Type 0) (replica view : ℕ) (receipts : List Receipt) (e : LogError) : Type 0 where
  pub found : Option Receipt
  pub read : SomeDesk IsDesk (λ d. IsVoteFound disk.bytes replica d.log view found)
  pub number : ℕ
  pub not_found : IsNotFound view receipts found number
  pub bad_entry : e ≡ BadEntry number

-- `vote_in_with`: some desk refuses, or gives something other than was released
abbrev pub RefusesVoteWith : {D : Type 0} → Ghosts D → (DeskView D → Type 0) → (replica view : ℕ) → List Receipt → LogError → Type 0
RefusesVoteWith disk IsDesk replica view receipts e = SomeDeskMoves IsDesk (RefusesVoteIn disk view e) ⊎ IsOtherThanReleased disk IsDesk replica view receipts e
