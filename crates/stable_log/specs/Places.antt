-- Where a journal's payloads stand in its file: what a journal keeps, and what reading it finds.
use Rattle.std.specs.Prelude.{ℕ, ◌≡◌, ◌≢◌, ◌≤◌, ◌<◌, ◌+◌, ◌*◌, ◌++◌, ◌⊎◌, List, [], ◌∷◌, length, get_or, take, drop, map, All, Option, Some, None, Bool, false}
use Rattle.std.specs.List.{flat_map}
use Rattle.stable_log.specs.Disk.{written}
use Rattle.stable_log.specs.Crash.{Only, Torn}
use Rattle.base_wire.specs.Payloads.{IsPayload}
use Rattle.base_wire.specs.declared.limits.TheConstants.{LONGEST_PAYLOAD, MOST_ENTRIES}
use Rattle.stable_log.specs.Image.{payload_text, journal_text, StandsFor}
use Rattle.stable_log.specs.declared.reading.PayloadPlace.{PayloadPlace}
use Rattle.stable_log.specs.declared.error.JournalError.{JournalError}
use Rattle.stable_log.specs.declared.error.JournalError.TheVariants.{Memory, Device, Damaged}

-- the bytes at a place
abbrev pub piece_at : List ℕ → PayloadPlace → List ℕ
piece_at bytes place = take place.len (drop place.at bytes)

-- the payloads at these places, each empty where the disk tells nothing
abbrev pub payloads_at : Option (List ℕ) → List PayloadPlace → List (List ℕ)
payloads_at None places = map (λ _. []) places
payloads_at (Some bytes) places = map (piece_at bytes) places

-- places of no more payloads than a journal has, all before the gate
pub record ArePlaces (places : List PayloadPlace) (end : ℕ) : Type 0 where
  pub few : length places ≤ MOST_ENTRIES
  pub near : end ≤ 8 + (5 + LONGEST_PAYLOAD) * length places
  pub inside : All (λ (p : PayloadPlace). p.at + p.len ≤ end) places
  pub small : All (λ (p : PayloadPlace). p.len ≤ LONGEST_PAYLOAD) places

-- all of the file is on the disk; it stands for the payloads, and its closed gate is at `end`
pub record IsAtRest (bytes : List ℕ) (images : List ℕ → Type 0) (payloads : List (List ℕ)) (end : ℕ) : Type 0 where
  pub stands : StandsFor bytes payloads
  pub gate_at : end ≡ length (journal_text payloads)
  pub durable : Only bytes images

-- what a journal keeps: its places, and while it is not stopped a file at rest
pub record IsJournal (bytes : Option (List ℕ)) (images : List ℕ → Type 0) (places : List PayloadPlace) (end : ℕ) (stopped : Bool) : Type 0 where
  pub placed : ArePlaces places end
  pub at_rest : stopped ≡ false → (bs : List ℕ) → bytes ≡ Some bs → IsAtRest bs images (payloads_at (Some bs) places) end

-- a gate that is not open stands there
abbrev pub IsClosedAt : List ℕ → ℕ → Type 0
IsClosedAt bytes at = (at < length bytes) × (get_or bytes at 0 ≢ 1)

-- an open gate stands there, and behind it a whole payload, at this place
pub record IsPayloadAt (bytes : List ℕ) (at : ℕ) (place : PayloadPlace) : Type 0 where
  pub text : drop at bytes ≡ payload_text (piece_at bytes place) ++ drop (place.at + place.len) bytes
  pub size : IsPayload (piece_at bytes place)

-- bytes that begin with a gate hold these payloads and no others
pub record Holds (bytes : List ℕ) (payloads : List (List ℕ)) : Type 0 where
  pub gate : ℕ
  pub rest : List ℕ
  pub split : bytes ≡ flat_map payload_text payloads ++ gate ∷ rest
  pub closed : gate ≢ 1
  pub sizes : All IsPayload payloads

-- neither a closed gate nor a whole payload stands there
abbrev pub IsBrokenAt : List ℕ → ℕ → Type 0
IsBrokenAt bytes at = (payloads : List (List ℕ)) → Holds (drop at bytes) payloads → ⊥

-- the payloads up to a gate
pub record IsRead (bytes : List ℕ) (places : List PayloadPlace) (end : ℕ) : Type 0 where
  pub front : take end bytes ≡ journal_text (payloads_at (Some bytes) places)
  pub fits : end ≤ length bytes
  pub sizes : All IsPayload (payloads_at (Some bytes) places)

-- reading from a gate on fails: the disk failed, or what stands there is broken
abbrev pub IsPayloadRefusal : Option (List ℕ) → ℕ → ℕ → JournalError → Type 0
IsPayloadRefusal told size at Device = Unit {0}
IsPayloadRefusal told size at Damaged = (bytes : List ℕ) → told ≡ Some bytes → size ≡ length bytes → IsBrokenAt bytes at
IsPayloadRefusal told size at _ = ⊥

-- reading all payloads fails: no list stands for the bytes
abbrev pub IsPayloadsRefusal : Option (List ℕ) → JournalError → Type 0
IsPayloadsRefusal told Memory = Unit {0}
IsPayloadsRefusal told Device = Unit {0}
IsPayloadsRefusal told Damaged = (bytes : List ℕ) → told ≡ Some bytes → (payloads : List (List ℕ)) → StandsFor bytes payloads → ⊥
IsPayloadsRefusal told _ = ⊥

-- the file with this text behind its gate, and the gate open
abbrev pub with_text : List ℕ → ℕ → List ℕ → List ℕ
with_text bytes gate_at text = written (written bytes (gate_at + 1) text) gate_at (1 ∷ [])

-- a crash while the text is written, or while its gate opens
abbrev pub IsPayloadStep : List ℕ → ℕ → List ℕ → List ℕ → Type 0
IsPayloadStep bytes gate_at text image = Torn (gate_at + 1) (length text) bytes image ⊎ Torn gate_at 1 (written bytes (gate_at + 1) text) image
