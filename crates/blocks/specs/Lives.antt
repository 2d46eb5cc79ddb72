-- The life of a replica: what it stored from a new log on, over all its crashes and restarts.
use Rattle.std.specs.Prelude.{◌≡◌, ◌⊎◌, ◌++◌, List, [], ◌∷◌}
use Rattle.std.specs.List.{Contains}
use Rattle.blocks.specs.Headers.{Header, IsGenesis}
use Rattle.blocks.specs.Chains.{AllIn}
use Rattle.blocks.specs.declared.ballot.Ballot.{Ballot}
use Rattle.blocks.specs.Replica.{Event, IsRun, Stored, headers_of, stored_of, votes_of}
use Rattle.blocks.specs.Replay.{FitsOpening, ballots_in}

-- ---- lives

-- from one recovery to the next: the headers that the replica held, the list that it found, and the list that it left
pub record Stay : Type 0 where
  pub headers : List Header
  pub opening : List Stored
  pub left : List Stored

-- what is found after a stay: the list that it left, or that list and one entry more, which it was storing as it
-- crashed, and which fits as its list does
abbrev pub IsFoundAfter : Header → Stay → List Stored → Type 0
IsFoundAfter genesis s list =
    (list ≡ s.left) ⊎ ((x : Stored) × (list ≡ s.left ++ x ∷ []) × FitsOpening s.headers genesis s.opening list)

-- .. after these stays, the last one first; a new replica finds nothing
abbrev pub IsFound : Header → List Stay → List Stored → Type 0
IsFound genesis [] list = list ≡ []
IsFound genesis (s ∷ before) list = IsFoundAfter genesis s list

-- each stay opens on what is found after the stays before it, and leaves a list that fits this
abbrev pub IsLife : Header → List Stay → Type 0
IsLife genesis [] = Unit {0}
IsLife genesis (s ∷ before) =
    IsFound genesis before s.opening × FitsOpening s.headers genesis s.opening s.left × IsLife genesis before

-- ---- votes and headers

-- whatever vote may have been released: those that stood in the list of a stay
abbrev pub released_in : List Stay → List Ballot
released_in [] = []
released_in (s ∷ before) = ballots_in s.left ++ released_in before

abbrev pub blocks_in : List Stored → List Header
blocks_in [] = []
blocks_in (x ∷ xs) = x.block ∷ blocks_in xs

-- the headers that were held in a life, and the blocks that it stored
abbrev pub headers_of_life : List Stay → List Header
headers_of_life [] = []
headers_of_life (s ∷ before) = s.headers ++ (blocks_in s.left ++ headers_of_life before)

-- ---- the law

-- a run that stored this list, whose votes are those in it, and whose headers are among these
pub record IsHistoryOf (genesis : Header) (hs : List Header) (list : List Stored) (run : List Event) : Type 0 where
  pub is_run : IsRun genesis run
  pub stores : stored_of run ≡ list
  pub votes : votes_of run ≡ ballots_in list
  pub headers : AllIn hs (headers_of run)

-- whatever is found after a life was stored by a run, which has all votes that were released in the life
abbrev pub EveryLifeIsARun : Type 0
EveryLifeIsARun =
    (genesis : Header) (life : List Stay) (list : List Stored)
    → IsGenesis genesis → IsLife genesis life → IsFound genesis life list
    → (run : List Event) × IsHistoryOf genesis (headers_of_life life ++ blocks_in list) list run
    × ((vote : Ballot) → Contains (released_in life) vote → Contains (votes_of run) vote)

-- a run is a life of one stay
abbrev pub stay_of : List Event → Stay
stay_of run = record { headers = headers_of run; opening = []; left = stored_of run }

abbrev pub EveryRunIsALife : Type 0
EveryRunIsALife = (genesis : Header) (run : List Event) → IsGenesis genesis → IsRun genesis run → IsLife genesis (stay_of run ∷ [])
