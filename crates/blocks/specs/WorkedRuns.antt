-- Small runs over the genesis of a committee, worked out: A1, A2, A3 are blocks of the views 1, 2, 3 each
-- on the one before, W4 stands on genesis, X5 on W4, X6 on X5, and so on.
use Rattle.std.specs.Prelude.{◌≡◌, ◌++◌, ℕ, List, [], ◌∷◌, true, false, replicate}
use Rattle.blocks.specs.Headers.{Header, header_id}
use Rattle.blocks.specs.Genesis.{genesis_of}
use Rattle.blocks.specs.Rules.{IsLockViolation}
use Rattle.blocks.specs.Replica.{ReplicaState, Event, Vote, Raise, Pass, Timeout, Restart, Stored, IsAllowed, IsRun, ballot_on, votes_of, stored_of, end_of}

-- ---- blocks

-- a block on p, named by a letter and its view
abbrev pub block_on : Header → ℕ → ℕ → Header
block_on p letter view = record {
  view = view;
  parent_view = p.view;
  parent = header_id p;
  payload = letter ∷ view ∷ replicate 30 0;
}

abbrev pub a1 : List ℕ → Header
a1 committee = block_on (genesis_of committee) 65 1

abbrev pub a2 : List ℕ → Header
a2 committee = block_on (a1 committee) 65 2

abbrev pub a3 : List ℕ → Header
a3 committee = block_on (a2 committee) 65 3

-- A3 where it stands on A1
abbrev pub a3_on_a1 : List ℕ → Header
a3_on_a1 committee = block_on (a1 committee) 65 3

abbrev pub w4 : List ℕ → Header
w4 committee = block_on (genesis_of committee) 87 4

abbrev pub x5 : List ℕ → Header
x5 committee = block_on (w4 committee) 88 5

abbrev pub x6 : List ℕ → Header
x6 committee = block_on (x5 committee) 88 6

abbrev pub f5 : List ℕ → Header
f5 committee = block_on (a1 committee) 70 5

abbrev pub z4 : List ℕ → Header
z4 committee = block_on (genesis_of committee) 90 4

-- ---- their chains, without the block

abbrev pub below_a1 : List ℕ → List Header
below_a1 committee = genesis_of committee ∷ []

abbrev pub below_a2 : List ℕ → List Header
below_a2 committee = a1 committee ∷ below_a1 committee

abbrev pub below_a3 : List ℕ → List Header
below_a3 committee = a2 committee ∷ below_a2 committee

abbrev pub below_x5 : List ℕ → List Header
below_x5 committee = w4 committee ∷ genesis_of committee ∷ []

abbrev pub below_x6 : List ℕ → List Header
below_x6 committee = x5 committee ∷ below_x5 committee

-- ---- what is said of them

-- the block gets no vote and raises no lock
abbrev pub IsHeld : Header → ReplicaState → Header → List Header → Type 0
IsHeld genesis s b ps =
    (IsAllowed genesis s (Vote b ps) → ⊥) × (IsAllowed genesis s (Raise b ps) → ⊥) × IsAllowed genesis s (Pass b ps)

-- the lock is this header, by id and view
abbrev pub IsLockedOn : ReplicaState → Header → Type 0
IsLockedOn s h = (s.lock_id ≡ header_id h) × (s.lock_view ≡ h.view)

-- ---- three votes in a row

abbrev pub three_votes : List ℕ → List Event
three_votes committee =
    Vote (a1 committee) (below_a1 committee)
    ∷ Vote (a2 committee) (below_a2 committee)
    ∷ Vote (a3 committee) (below_a3 committee)
    ∷ []

-- a replica votes for A1, A2 and A3, and is then locked on A1
pub record VotesForThreeBlocks (committee : List ℕ) : Type 0 where
  pub run : IsRun (genesis_of committee) (three_votes committee)
  pub votes : votes_of (three_votes committee) ≡ ballot_on (a1 committee) ∷ ballot_on (a2 committee) ∷ ballot_on (a3 committee) ∷ []
  pub locked : IsLockedOn (end_of (genesis_of committee) (three_votes committee)) (a1 committee)

-- ---- a raised lock survives a restart

-- then a timeout, and X6 raises the lock to W4
abbrev pub raised_run : List ℕ → List Event
raised_run committee = three_votes committee ++ Timeout 9 ∷ Raise (x6 committee) (below_x6 committee) ∷ []

-- after the three votes W4 is held, and so is X5 after a timeout; X6 raises the lock to W4, which stays
-- locked after a restart and then is held as before
pub record RaisedLockSurvives (committee : List ℕ) : Type 0 where
  pub w4_held : IsHeld (genesis_of committee) (end_of (genesis_of committee) (three_votes committee)) (w4 committee) (below_a1 committee)
  pub x5_held : IsHeld (genesis_of committee) (end_of (genesis_of committee) (three_votes committee ++ Timeout 9 ∷ [])) (x5 committee) (below_x5 committee)
  pub run : IsRun (genesis_of committee) (raised_run committee ++ Restart ∷ [])
  pub locked : IsLockedOn (end_of (genesis_of committee) (raised_run committee)) (w4 committee)
  pub still_locked : IsLockedOn (end_of (genesis_of committee) (raised_run committee ++ Restart ∷ [])) (w4 committee)
  pub still_held : IsHeld (genesis_of committee) (end_of (genesis_of committee) (raised_run committee ++ Restart ∷ [])) (w4 committee) (below_a1 committee)

-- ---- a timeout is forgotten at a restart

-- votes for A1 and for A3 on it, and a timeout
abbrev pub timeout_run : List ℕ → List Event
timeout_run committee =
    Vote (a1 committee) (below_a1 committee)
    ∷ Vote (a3_on_a1 committee) (below_a2 committee)
    ∷ Timeout 9
    ∷ []

-- F5 is held after the timeout, and gets a vote after a restart
pub record TimeoutIsForgotten (committee : List ℕ) : Type 0 where
  pub f5_held : IsHeld (genesis_of committee) (end_of (genesis_of committee) (timeout_run committee)) (f5 committee) (below_a2 committee)
  pub run : IsRun (genesis_of committee) (timeout_run committee ++ Restart ∷ Vote (f5 committee) (below_a2 committee) ∷ [])

-- ---- a lock that is raised without a vote is stored

-- votes for A1 and A2, a timeout, and A3 raises the lock to A1
abbrev pub raise_run : List ℕ → List Event
raise_run committee =
    Vote (a1 committee) (below_a1 committee)
    ∷ Vote (a2 committee) (below_a2 committee)
    ∷ Timeout 9
    ∷ Raise (a3 committee) (below_a3 committee)
    ∷ []

abbrev pub entry_of : (b p : Header) → Stored
entry_of b p = record { voted = true; block = b; parent = p }

abbrev pub raise_entry_of : (b p : Header) → Stored
raise_entry_of b p = record { voted = false; block = b; parent = p }

-- A3 is stored beside the votes, a restart keeps the lock A1 and the vote view 2, and Z4 is held
pub record RaiseIsStored (committee : List ℕ) : Type 0 where
  pub run : IsRun (genesis_of committee) (raise_run committee ++ Restart ∷ [])
  pub stored : stored_of (raise_run committee) ≡ entry_of (a1 committee) (genesis_of committee) ∷ entry_of (a2 committee) (a1 committee) ∷ raise_entry_of (a3 committee) (a2 committee) ∷ []
  pub vote_view : (end_of (genesis_of committee) (raise_run committee ++ Restart ∷ [])).vote_view ≡ 2
  pub locked : IsLockedOn (end_of (genesis_of committee) (raise_run committee ++ Restart ∷ [])) (a1 committee)
  pub z4_held : IsHeld (genesis_of committee) (end_of (genesis_of committee) (raise_run committee ++ Restart ∷ [])) (z4 committee) (below_a1 committee)

-- ---- votes on both sides of a fork

-- a vote for A3, whose parent A2 stands on A1, and a later vote for W4 on genesis violate the lock; with
-- a later vote for F5 on A1, whose parent is as old as the parent of A2, no rule is broken
pub record CrossesAFork (committee : List ℕ) : Type 0 where
  pub violation : IsLockViolation (ballot_on (a3 committee)) (ballot_on (w4 committee)) (a3 committee) (a2 committee) (w4 committee)
  pub none : IsLockViolation (ballot_on (a3 committee)) (ballot_on (f5 committee)) (a3 committee) (a2 committee) (f5 committee) → ⊥

-- ---- the laws

abbrev pub AReplicaVotesForThreeBlocks : Type 0
AReplicaVotesForThreeBlocks = (committee : List ℕ) → VotesForThreeBlocks committee

abbrev pub ARaisedLockSurvivesARestart : Type 0
ARaisedLockSurvivesARestart = (committee : List ℕ) → RaisedLockSurvives committee

abbrev pub ATimeoutIsForgottenAtARestart : Type 0
ATimeoutIsForgottenAtARestart = (committee : List ℕ) → TimeoutIsForgotten committee

abbrev pub ARaiseWithoutAVoteIsStored : Type 0
ARaiseWithoutAVoteIsStored = (committee : List ℕ) → RaiseIsStored committee

abbrev pub AVoteAcrossAForkViolatesTheLock : Type 0
AVoteAcrossAForkViolatesTheLock = (committee : List ℕ) → CrossesAFork committee
