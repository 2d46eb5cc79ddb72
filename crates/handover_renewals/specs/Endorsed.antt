-- What endorsements say of the slots of a committee. A slot is the place of a replica.
use Rattle.std.specs.Prelude.{◌≢◌, nat_eq, ℕ, List, [], Option, drop, map, slice_index_or}
use Rattle.std.specs.List.{All, AllPairs, find}
use Rattle.std.specs.declared.alloc.Global.{Global}
use Rattle.std.specs.declared.vec.Vec.{Vec}
use Rattle.handover_keys.specs.Endorsements.{IsGoodEndorsement, statement_in}
use Rattle.handover_keys.specs.NextKeys.{replica_in}
use Rattle.handover_keys.specs.NextKeysReading.{IsStatement}

-- the bytes of each
abbrev pub texts_of : List (Vec ℕ Global) → List (List ℕ)
texts_of es = map (λ e. e.items) es

-- the replica that an endorsement is of
abbrev pub replica_of : List ℕ → ℕ
replica_of e = replica_in (statement_in e)

-- the keys that it states, one after the other
abbrev pub stated_keys : List ℕ → List ℕ
stated_keys e = drop 39 (statement_in e)

-- the one at a place, for a place below their number
abbrev pub nth : List (List ℕ) → ℕ → List ℕ
nth es k = slice_index_or es k []

-- the endorsement of a replica, the first if there are several
unfoldable pub endorsement_of : List (List ℕ) → ℕ → Option (List ℕ)
endorsement_of es s = find (λ e. nat_eq (replica_of e) s) es

-- each has the form of one
abbrev pub AreStated : List (List ℕ) → Type 0
AreStated es = All (λ e. IsStatement (statement_in e)) es

-- .. and is good under the committee
abbrev pub AreGood : List ℕ → List (List ℕ) → Type 0
AreGood committee es = All (IsGoodEndorsement committee) es

-- no two are of one replica
abbrev pub AreByDifferent : List (List ℕ) → Type 0
AreByDifferent es = AllPairs (λ d e. replica_of d ≢ replica_of e) es
