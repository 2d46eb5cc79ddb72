-- The small runs, event by event.
use Rattle.std.proofs.Common.{◌≡◌, ℕ, ◌<◌, List, [], ◌∷◌, ◌++◌, refl, ap, inl, inr, arith}
use Rattle.blocks.specs.Headers.{Header, NamesParent}
use Rattle.blocks.specs.Genesis.{genesis_of}
use Rattle.blocks.specs.Chains.{IsChain}
use Rattle.blocks.specs.Replica.{ReplicaState, Restart, IsRun, LockIsIn, end_of}
use Rattle.blocks.specs.WorkedRuns.{block_on, a1, a2, a3, a3_on_a1, w4, x5, x6, f5, below_a1, below_a2, below_a3, below_x5, below_x6, IsHeld, three_votes, raised_run, raise_run, AReplicaVotesForThreeBlocks, ARaisedLockSurvivesARestart, ATimeoutIsForgottenAtARestart, ARaiseWithoutAVoteIsStored, AVoteAcrossAForkViolatesTheLock}
use Rattle.blocks.proofs.Members.{Has-from_Contains, Contains-first}

-- ---- chains

names_on : (p : Header) (letter view : ℕ) → NamesParent (block_on p letter view) p
names_on p letter view = record { id = refl; view = refl }

chain_on_genesis : (committee : List ℕ) (letter view : ℕ) → 0 < view → IsChain (genesis_of committee) (block_on (genesis_of committee) letter view) (below_a1 committee)
chain_on_genesis committee letter view above = (names_on (genesis_of committee) letter view, above, refl)

chain_on : (genesis p : Header) (ps : List Header) (letter view : ℕ) → p.view < view → IsChain genesis p ps → IsChain genesis (block_on p letter view) (p ∷ ps)
chain_on genesis p ps letter view above c = (names_on p letter view, above, c)

chain_a1 : (committee : List ℕ) → IsChain (genesis_of committee) (a1 committee) (below_a1 committee)
chain_a1 committee = chain_on_genesis committee 65 1 (omega arith)

chain_a2 : (committee : List ℕ) → IsChain (genesis_of committee) (a2 committee) (below_a2 committee)
chain_a2 committee = chain_on (genesis_of committee) (a1 committee) (below_a1 committee) 65 2 (omega arith) (chain_a1 committee)

chain_a3 : (committee : List ℕ) → IsChain (genesis_of committee) (a3 committee) (below_a3 committee)
chain_a3 committee = chain_on (genesis_of committee) (a2 committee) (below_a2 committee) 65 3 (omega arith) (chain_a2 committee)

chain_w4 : (committee : List ℕ) → IsChain (genesis_of committee) (w4 committee) (below_a1 committee)
chain_w4 committee = chain_on_genesis committee 87 4 (omega arith)

chain_x5 : (committee : List ℕ) → IsChain (genesis_of committee) (x5 committee) (below_x5 committee)
chain_x5 committee = chain_on (genesis_of committee) (w4 committee) (below_a1 committee) 88 5 (omega arith) (chain_w4 committee)

chain_x6 : (committee : List ℕ) → IsChain (genesis_of committee) (x6 committee) (below_x6 committee)
chain_x6 committee = chain_on (genesis_of committee) (x5 committee) (below_x5 committee) 88 6 (omega arith) (chain_x5 committee)

-- ---- blocks that are held

-- a lock above genesis does not stand in a chain of genesis alone
only_genesis : (committee : List ℕ) (s : ReplicaState) → LockIsIn s (below_a1 committee) → s.lock_view ≡ 0
only_genesis committee s i =
    elim (Has-from_Contains (below_a1 committee) i.0 i.1) [
      | inl e ↦ (let k = ap (λ (h : Header). h.view) e in let v = i.3 in omega arith)
      | inr m ↦ absurd m
    ]

-- a block on genesis gets no vote from a replica that is locked above it, and raises no lock
held_on_genesis : (committee : List ℕ) (s : ReplicaState) (letter view : ℕ) → 0 < view → 0 < s.lock_view → IsHeld (genesis_of committee) s (block_on (genesis_of committee) letter view) (below_a1 committee)
held_on_genesis committee s letter view above locked = (
  λ v. elim v.2 [ inl i ↦ (let k = only_genesis committee s i in absurd (omega arith)) | inr l ↦ absurd (omega arith) ],
  λ r. r.1,
  chain_on_genesis committee letter view above,
)

-- ---- the runs

votes_three : (committee : List ℕ) → IsRun (genesis_of committee) (three_votes committee)
votes_three committee = (
  (chain_a1 committee, omega arith, inl (genesis_of committee, Contains-first (genesis_of committee) [], refl, refl)),
  (
    (chain_a2 committee, omega arith, inr (omega arith)),
    ((chain_a3 committee, omega arith, inr (omega arith)), tt),
  ),
)

pub votes_for_three : AReplicaVotesForThreeBlocks
votes_for_three committee = record { run = votes_three committee; votes = refl; locked = (refl, refl) }

pub raised_lock_survives : ARaisedLockSurvivesARestart
raised_lock_survives committee =
    let r = votes_three committee in
    record {
      w4_held = held_on_genesis committee (end_of (genesis_of committee) (three_votes committee)) 87 4 (omega arith) (omega arith);
      x5_held = (λ v. absurd (let late = v.1 in omega arith), λ u. (let up = u.1 in omega arith), chain_x5 committee);
      run = (r.0, (r.1.0, (r.1.1.0, (tt, ((chain_x6 committee, omega arith), (tt, tt))))));
      locked = (refl, refl);
      still_locked = (refl, refl);
      still_held = held_on_genesis committee (end_of (genesis_of committee) (raised_run committee ++ Restart ∷ [])) 87 4 (omega arith) (omega arith);
    }

chain_a3_on_a1 : (committee : List ℕ) → IsChain (genesis_of committee) (a3_on_a1 committee) (below_a2 committee)
chain_a3_on_a1 committee = chain_on (genesis_of committee) (a1 committee) (below_a1 committee) 65 3 (omega arith) (chain_a1 committee)

chain_f5 : (committee : List ℕ) → IsChain (genesis_of committee) (f5 committee) (below_a2 committee)
chain_f5 committee = chain_on (genesis_of committee) (a1 committee) (below_a1 committee) 70 5 (omega arith) (chain_a1 committee)

pub timeout_is_forgotten : ATimeoutIsForgottenAtARestart
timeout_is_forgotten committee =
    record {
      f5_held = (λ v. absurd (let late = v.1 in omega arith), λ u. (let up = u.1 in omega arith), chain_f5 committee);
      run = (
        (votes_three committee).0,
        (
          (chain_a3_on_a1 committee, omega arith, inr (omega arith)),
          (tt, (tt, ((chain_f5 committee, omega arith, inr (omega arith)), tt))),
        ),
      );
    }

pub raise_is_stored : ARaiseWithoutAVoteIsStored
raise_is_stored committee =
    let r = votes_three committee in
    record {
      run = (r.0, (r.1.0, (tt, ((chain_a3 committee, omega arith), (tt, tt)))));
      stored = refl;
      vote_view = refl;
      locked = (refl, refl);
      z4_held = held_on_genesis committee (end_of (genesis_of committee) (raise_run committee ++ Restart ∷ [])) 90 4 (omega arith) (omega arith);
    }

pub crosses_a_fork : AVoteAcrossAForkViolatesTheLock
crosses_a_fork committee = record {
  violation = record {
    e_id = refl;
    e_view = refl;
    parent = names_on (a2 committee) 65 3;
    w_id = refl;
    w_view = refl;
    later = omega arith;
    older_parent = omega arith;
  };
  none = λ breaks. (let older = breaks.older_parent in omega arith);
}
