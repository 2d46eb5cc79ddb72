-- When a replica that asks others has heard enough to take blocks.
use Rattle.std.specs.Prelude.{◌≡◌, ◌⊎◌, ◌+◌, ◌-◌, ◌^◌, ℕ, List, Bool, Option, Some, None, min}
use Rattle.blocks.specs.Replica.{Stored}
use Rattle.stable_log.specs.declared.disk.Disk.{Ghosts}
use Rattle.vote_desk.specs.DeskRefusals.{IsStopped}
use Rattle.vote_desk.specs.SomeDesk.{IsDeskOf, SomeDesk, SomeDeskMoves, TimesOut}
use Rattle.vote_desk.specs.declared.desk_error.DeskError.{DeskError}
use Rattle.vote_desk.specs.declared.desk_error.DeskError.TheVariants.{Memory, Stopped}
use Rattle.signer_answers.specs.Enough.{AreEnough}

-- the view above, if there is one
abbrev pub next_view : ℕ → ℕ
next_view view = min (view + 1) (2 ^ 64 - 1)

-- whose logs were read whole, by their numbers, and the greatest view that any of them certifies
pub record Hearing : Type 0 where
  pub whole : List Bool
  pub greatest : Option ℕ

-- the name of the cell that keeps what a gate was opened by, that, and whether this hearing opened it
pub record Opening : Type 0 where
  pub of : ℕ
  pub heard : Hearing
  pub is_first : Bool

module _ {D : Type 0} (disk : Ghosts D) (committee : List ℕ) (replica : ℕ) (opening : List Stored) where
  -- some desk gave up on all views up to the one above this view
  abbrev pub IsTimedOut : Option ℕ → Type 0
  IsTimedOut (Some view) = SomeDeskMoves (IsDeskOf disk committee replica opening) (TimesOut (next_view view))
  IsTimedOut None = Unit {0}

  -- enough of the others were heard, and some desk gave up on the views up to the one above the greatest that they certify
  pub record IsGivenUp (h : Hearing) : Type 0 where
    pub enough : AreEnough committee replica h.whole
    pub timed_out : IsTimedOut h.greatest

  -- .. after some hearing
  abbrev pub HasHeard : Type 0
  HasHeard = (h : Hearing) × IsGivenUp h

  -- memory for what was heard was refused, or some desk is stopped
  abbrev pub IsHearingRefusal : DeskError → Type 0
  IsHearingRefusal e = (e ≡ Memory) ⊎ ((e ≡ Stopped) × SomeDesk (IsDeskOf disk committee replica opening) (λ d. IsStopped d))
