-- When two votes of one replica break a voting rule, and that no run of a correct replica has two such
-- votes: of the second rule where ids do not collide. The aim, to name more than a third of the replicas where
-- two commits conflict, is that of BFT Protocol Forensics (Sheng and others, CCS 2021); the two rules are this
-- project's own. Others call the first offence equivocation, and the second amnesia or a surround vote.
use Rattle.std.specs.Prelude.{◌≡◌, ◌≢◌, ◌<◌, List, ◌∷◌}
use Rattle.std.specs.List.{Contains}
use Rattle.blocks.specs.Headers.{Header, NamesParent, header_id, IsGenesis}
use Rattle.blocks.specs.Chains.{NoCollision}
use Rattle.blocks.specs.declared.ballot.Ballot.{Ballot}
use Rattle.blocks.specs.Replica.{Event, IsRun, votes_of, headers_of}

-- two votes of one view for different blocks
pub record IsDoubleVote (e w : Ballot) : Type 0 where
  pub same_view : e.view ≡ w.view
  pub different_ids : e.id ≢ w.id

-- an earlier vote e for a block on p, and a later vote w for a block whose parent is older than p's
pub record IsLockViolation (e w : Ballot) (he hp hw : Header) : Type 0 where
  pub e_id : header_id he ≡ e.id
  pub e_view : he.view ≡ e.view
  pub parent : NamesParent he hp
  pub w_id : header_id hw ≡ w.id
  pub w_view : hw.view ≡ w.view
  pub later : e.view < w.view
  pub older_parent : hw.parent_view < hp.parent_view

-- no run has two votes of one view for different blocks
abbrev pub NoRunHasADoubleVote : Type 0
NoRunHasADoubleVote =
    (genesis : Header) (run : List Event) (e w : Ballot)
    → IsRun genesis run → Contains (votes_of run) e → Contains (votes_of run) w
    → IsDoubleVote e w → ⊥

-- no run votes against the lock that an earlier vote took, where no two different headers among those
-- of the run and of the two votes have one id
abbrev pub NoRunHasALockViolation : Type 0
NoRunHasALockViolation =
    (genesis : Header) (run : List Event) (e w : Ballot) (he hp hw : Header)
    → IsGenesis genesis → IsRun genesis run → Contains (votes_of run) e → Contains (votes_of run) w
    → NoCollision (he ∷ hp ∷ hw ∷ headers_of run)
    → IsLockViolation e w he hp hw → ⊥
