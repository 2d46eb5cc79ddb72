-- A desk is a stay in the life of its replica: it lasts from one recovery of the log to the next.
use Rattle.std.specs.Prelude.{◌∷◌, ℕ, List, Option, IfSome}
use Rattle.lmots.specs.declared.keys.PrivateSeed.{PrivateSeed}
use Rattle.blocks.specs.Headers.{Header}
use Rattle.blocks.specs.Lives.{Stay, IsFound, IsFoundAfter, IsLife}
use Rattle.blocks.specs.Replica.{Stored}
use Rattle.replica_core.specs.Cores.{Core}
use Rattle.key_index_store.specs.State.{IndexState}
use Rattle.log_format.specs.EntryText.{Entry}
use Rattle.vote_log.specs.Logs.{AreListed, LogState, StandsForEntries}
use Rattle.vote_desk.specs.Desks.{DeskView, desk_of}

-- the stay of a desk so far: over the headers of its core, from the opening list to the log's
abbrev pub stay_in : {D : Type 0} → List Stored → DeskView D → Stay
stay_in opening d = record { headers = d.core.headers; opening = opening; left = d.log.steps }

-- whatever log an image is read as, its steps are what is found after the stay. `VoteLog::recover` says of the log that
-- it reads which entries the bytes stand for (`ok`), and that the steps are theirs (`listed`)
abbrev pub IsImageAfter : Header → Stay → List ℕ → Type 0
IsImageAfter genesis s image =
    (entries : List Entry) (steps : List Stored) → StandsForEntries image entries → AreListed entries steps → IsFoundAfter genesis s steps

-- it goes on each life after which the opening list is found, and each image that a crash leaves is one after it
pub record IsStay {D : Type 0} (bytes : D → Option (List ℕ)) (images : D → List ℕ → Type 0) (genesis : Header) (opening : List Stored) (d : DeskView D) : Type 0 where
  pub life : (before : List Stay) → IsLife genesis before → IsFound genesis before opening → IsLife genesis (stay_in opening d ∷ before)
  pub found : IfSome (bytes d.log.disk) (λ _. (image : List ℕ) → images d.log.disk image → IsImageAfter genesis (stay_in opening d) image)

-- a desk with this key, these indices and this log was such a stay
abbrev pub AreLeftByStay : {D : Type 0} → (D → Option (List ℕ)) → (D → List ℕ → Type 0) → Header → List Stored → List PrivateSeed → IndexState D → LogState D → Type 0
AreLeftByStay bytes images genesis opening seed indices log =
    (core : Core) × (released : ℕ) × IsStay bytes images genesis opening (desk_of core seed indices log released)
