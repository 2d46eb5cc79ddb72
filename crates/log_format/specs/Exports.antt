-- The stream in which the log of a replica goes out. docs/FORMATS.md, 'Export'.
use Rattle.std.specs.Prelude.{ℕ, ◌++◌, List, length, take, drop, codes}
use Rattle.std.specs.List.{flat_map}
use Rattle.byteorder.specs.Endian.{big_bytes}

-- the length, then the payload
unfoldable pub frame_text : List ℕ → List ℕ
frame_text payload = big_bytes 4 (length payload) ++ payload

-- no length, then how many frames this stream has
unfoldable pub end_mark : ℕ → List ℕ
end_mark count = big_bytes 4 0 ++ big_bytes 4 count

-- the payloads from the first on, so many at most
abbrev pub asked_for : List (List ℕ) → ℕ → ℕ → List (List ℕ)
asked_for payloads first most = take most (drop first payloads)

-- a stream of these frames
abbrev pub stream_text : List (List ℕ) → List ℕ
stream_text frames = codes "HSL1" ++ (flat_map frame_text frames ++ end_mark (length frames))

-- the stream that answers a request for the payloads from the first on, so many at most
abbrev pub export_text : List (List ℕ) → ℕ → ℕ → List ℕ
export_text payloads first most = stream_text (asked_for payloads first most)
