-- What came over a connection and was not answered.
use Rattle.std.specs.Prelude.{◌≡◌, ◌≢◌, ◌⊎◌, ◌++◌, [], ℕ, List, true, false}
use Rattle.base_sockets.specs.declared.gathering.CallsSoFar.{CallsSoFar}

-- nothing came yet
abbrev pub IsUnheard : CallsSoFar → Type 0
IsUnheard line = (line.bytes.items ≡ []) × (line.has_answered ≡ false) × (line.is_over ≡ false)

-- these bytes came too
abbrev pub Hears : List ℕ → CallsSoFar → CallsSoFar → Type 0
Hears bytes old new = (new.bytes.items ≡ old.bytes.items ++ bytes)
    × (new.has_answered ≡ old.has_answered) × (new.is_over ≡ old.is_over)

-- nothing more is answered
abbrev pub IsAllAnswered : CallsSoFar → Type 0
IsAllAnswered line = (line.is_over ≡ true) ⊎ ((line.has_answered ≡ true) × (line.bytes.items ≡ []))

-- what came may have a call that is to be answered
abbrev pub MayHaveCalls : CallsSoFar → Type 0
MayHaveCalls line = (IsAllAnswered line → ⊥) × (line.bytes.items ≢ [])
