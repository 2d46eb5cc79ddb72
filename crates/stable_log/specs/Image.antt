-- What the bytes of a journal stand for. docs/FORMATS.md, 'Journal file'.
use Rattle.std.specs.Prelude.{ℕ, ◌≡◌, ◌≢◌, ◌≤◌, ◌++◌, ◌⊎◌, List, [], ◌∷◌, length, All}
use Rattle.std.specs.List.{flat_map}
use Rattle.byteorder.specs.Endian.{big_bytes}
use Rattle.base_wire.specs.Payloads.{IsPayload}
use Rattle.base_wire.specs.declared.limits.TheConstants.{MOST_ENTRIES}

-- HSJ1 and four zero bytes
abbrev pub magic : List ℕ
magic = 0x48 ∷ 0x53 ∷ 0x4a ∷ 0x31 ∷ 0 ∷ 0 ∷ 0 ∷ 0 ∷ []

-- an open gate, the length, the payload
abbrev pub payload_text : List ℕ → List ℕ
payload_text payload = 1 ∷ (big_bytes 4 (length payload) ++ payload)

-- a journal's bytes up to the gate behind its last payload
abbrev pub journal_text : List (List ℕ) → List ℕ
journal_text payloads = magic ++ flat_map payload_text payloads

-- an image stands for the payloads behind its open gates, up to the first gate that is not open; what lies
-- behind that gate doesn't matter
pub record StandsFor (image : List ℕ) (payloads : List (List ℕ)) : Type 0 where
  pub gate : ℕ
  pub rest : List ℕ
  pub split : image ≡ journal_text payloads ++ gate ∷ rest
  pub closed : gate ≢ 1
  pub sizes : All IsPayload payloads
  pub few : length payloads ≤ MOST_ENTRIES

-- a journal of no payload, as `create` writes it
abbrev pub empty_journal : List ℕ
empty_journal = magic ++ 0 ∷ []

-- what `append` writes behind its gate: the length, the payload, a closed gate
abbrev pub staged_text : List ℕ → List ℕ
staged_text payload = big_bytes 4 (length payload) ++ (payload ++ 0 ∷ [])

-- an image of the list from before an append, or of that list with the new payload
abbrev pub IsBeforeOrAfter : List (List ℕ) → List ℕ → List ℕ → Type 0
IsBeforeOrAfter payloads payload image = StandsFor image payloads ⊎ StandsFor image (payloads ++ payload ∷ [])

-- whatever a crash leaves stands for these payloads
abbrev pub LeavesList : (List ℕ → Type 0) → List (List ℕ) → Type 0
LeavesList images payloads = (image : List ℕ) → images image → StandsFor image payloads

-- bytes stand for one list at most
abbrev pub AnImageStandsForOneList : Type 0
AnImageStandsForOneList = (image : List ℕ) (payloads others : List (List ℕ)) → StandsFor image payloads → StandsFor image others → payloads ≡ others
