-- What stands at the front of the rest of a stream that is read piece by piece.
use Rattle.std.specs.Prelude.{ℕ, ◌≡◌, ◌<◌, ◌++◌, List, [], length, take}
use Rattle.byteorder.specs.Endian.{big_bytes}
use Rattle.base_wire.specs.Payloads.{IsPayload}
use Rattle.log_format.specs.Exports.{frame_text}
use Rattle.log_format.specs.Readings.{Ends, unfinished}
use Rattle.log_format.specs.declared.status.Status.{Status}
use Rattle.log_transfer.specs.Connections.{Connection, behind}
use Rattle.log_transfer.specs.declared.filling.Filled.{Filled}
use Rattle.log_transfer.specs.declared.filling.Filled.TheVariants.{All, Part}
use Rattle.log_transfer.specs.declared.stream.Came.{Came}
use Rattle.log_transfer.specs.declared.stream.Came.TheVariants.{Frame, End}
use Rattle.log_transfer.specs.declared.stream.Head.{Head}
use Rattle.log_transfer.specs.declared.stream.Head.TheVariants.{Length, Short}

-- the four bytes of a length
unfoldable pub length_text : ℕ → List ℕ
length_text n = big_bytes 4 n

-- what each connection behind the new one is behind the old one, where these bytes were read
abbrev pub GaveAll : (old new : Connection → Type 0) → List ℕ → Type 0
GaveAll old new bytes = (c : Connection) → new c → old (behind bytes c)

-- a buffer was filled, or in part
abbrev pub IsBufferFilled : (old new : Connection → Type 0) → List ℕ → Filled → Type 0
IsBufferFilled old new buffer All = GaveAll old new buffer
IsBufferFilled old new buffer (Part n failed) = (n < length buffer) × old (record { text = take n buffer; fails = failed })

-- behind these bytes, which were read before, a connection gives this status
pub record EndsBehind (old : Connection → Type 0) (front : List ℕ) (count room : ℕ) (status : Status) : Type 0 where
  pub c : Connection
  pub may : old c
  pub ends : Ends c.fails count room (front ++ c.text) status

-- a length, or fewer bytes than it has
abbrev pub IsHead : (old new : Connection → Type 0) → Head → Type 0
IsHead old new (Length n) = GaveAll old new (length_text n)
IsHead old new (Short failed) = (count room : ℕ) → EndsBehind old [] count room (unfinished failed)

-- behind a length: the payload, or the end
abbrev pub IsCameBehind : (old new : Connection → Type 0) → ℕ → ℕ → ℕ → List ℕ → Came → Type 0
IsCameBehind old new n count room buffer (Frame m) = (m ≡ n) × (0 < room) × IsPayload (take n buffer) × (length (take n buffer) ≡ n) × GaveAll old new (take n buffer)
IsCameBehind old new n count room buffer (End status) = EndsBehind old (length_text n) count room status

-- one frame, or the end
abbrev pub IsCame : (old new : Connection → Type 0) → ℕ → ℕ → List ℕ → Came → Type 0
IsCame old new count room buffer (Frame n) = (0 < room) × IsPayload (take n buffer) × GaveAll old new (frame_text (take n buffer))
IsCame old new count room buffer (End status) = EndsBehind old [] count room status
