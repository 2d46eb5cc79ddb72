-- What the bytes of a journal hold, up to its end or to damage. docs/FORMATS.md, 'Journal file'.
use Rattle.std.specs.Prelude.{ℕ, ◌≡◌, ◌≢◌, ◌<◌, ◌≤◌, ◌++◌, ◌⊎◌, List, ◌∷◌, length, Bool}
use Rattle.std.specs.Bool.{MatchBool}
use Rattle.std.specs.List.{All}
use Rattle.base_wire.specs.Payloads.{IsPayload}
use Rattle.base_wire.specs.declared.limits.TheConstants.{MOST_ENTRIES}
use Rattle.stable_log.specs.Image.{journal_text, payload_text}
use Rattle.log_export.specs.declared.splitting.Gate.{Gate}
use Rattle.log_export.specs.declared.splitting.Gate.TheVariants.{Closed, Entry, Damaged}

-- the payloads, and whether the journal ends behind them
pub record JournalReading : Type 0 where
  pub payloads : List (List ℕ)
  pub whole : Bool

-- a journal may have them
pub record AreJournalPayloads (payloads : List (List ℕ)) : Type 0 where
  pub sizes : All IsPayload payloads
  pub few : length payloads ≤ MOST_ENTRIES

-- there are some, each of four bytes
abbrev pub AreIndices : List (List ℕ) → Type 0
AreIndices payloads = (0 < length payloads) × All (λ payload. length payload ≡ 4) payloads

-- the bytes are a journal's with these payloads, and this stands behind them
pub record IsRestBehind (bytes : List ℕ) (payloads : List (List ℕ)) (rest : List ℕ) : Type 0 where
  pub split : bytes ≡ journal_text payloads ++ rest
  pub sound : AreJournalPayloads payloads

-- a gate stands there that is not open
pub record IsClosed (rest : List ℕ) : Type 0 where
  pub gate : ℕ
  pub more : List ℕ
  pub split : rest ≡ gate ∷ more
  pub closed : gate ≢ 1

-- an open gate stands there, and a whole payload behind it
pub record IsEntry (rest payload behind : List ℕ) : Type 0 where
  pub split : rest ≡ payload_text payload ++ behind
  pub size : IsPayload payload

abbrev pub HasNoEntry : List ℕ → Type 0
HasNoEntry rest = (payload behind : List ℕ) → IsEntry rest payload behind → ⊥

-- neither stands there, or one entry more than a journal has
pub record IsDamage (count : ℕ) (rest : List ℕ) : Type 0 where
  pub open_or_none : IsClosed rest → ⊥
  pub no_more : (count ≡ MOST_ENTRIES) ⊎ HasNoEntry rest

-- the bytes hold these payloads, and end behind them, or are damaged there
pub record IsFrontOf (bytes : List ℕ) (r : JournalReading) : Type 0 where
  pub rest : List ℕ
  pub behind : IsRestBehind bytes r.payloads rest
  pub ends : MatchBool r.whole (IsClosed rest) (IsDamage (length r.payloads) rest)

-- ---- parts of this

-- what stands at a gate, behind so many entries
abbrev pub IsAtGate : ℕ → List ℕ → Gate → Type 0
IsAtGate count rest Closed = IsClosed rest
IsAtGate count rest (Entry payload behind) = (count < MOST_ENTRIES) × IsEntry rest payload.now behind.now
IsAtGate count rest Damaged = IsDamage count rest
