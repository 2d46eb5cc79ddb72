-- What a line says of a path and of a refused committee, and what came of writing a line.
use Rattle.std.specs.Prelude.{◌≡◌, ◌==◌, ◌&&◌, ◌⊎◌, ◌*◌, ◌++◌, ◌∷◌, [], ℕ, zero, suc, Bool, not, nat_le, List, Option, codes, decimal, if◌then◌else◌}
use Rattle.std.specs.List.{flat_map}
use Rattle.hex.specs.Hex.{encode_lower}
use Rattle.base_streams.specs.Counting.{one_more}
use Rattle.base_streams.specs.Streams.{Wrote, WrotePart}
use Rattle.base_wire.specs.Pieces.{piece}
use Rattle.blocks.specs.declared.committee.CommitteeRefusal.{CommitteeRefusal}
use Rattle.blocks.specs.declared.committee.CommitteeRefusal.TheVariants.{Length, Magic, Size, KeyCount, Key, SameKey, Weight}

-- whether a byte is printed as it is: no control character, and no backslash
abbrev pub is_plain : ℕ → Bool
is_plain byte = nat_le 32 byte && not (byte == 127) && not (byte == 92)

-- "\x" and two hex digits
abbrev pub escape : ℕ → List ℕ
escape byte = codes "\\x" ++ encode_lower (byte ∷ [])

abbrev pub printed_byte : ℕ → List ℕ
printed_byte byte = if is_plain byte then byte ∷ [] else escape byte

-- a text in one line
abbrev pub printed : List ℕ → List ℕ
printed text = flat_map printed_byte text

-- "fault file PATH", where the path may go on behind the printed part
abbrev pub file_line : List ℕ → List ℕ → List ℕ
file_line path rest = codes "fault file " ++ (printed path ++ (rest ++ codes "\n"))

-- " DDDD" for each two of the first bytes, so many times two
unfoldable pub spoken : List ℕ → ℕ → List ℕ
spoken id zero = []
spoken id (suc k) = spoken id k ++ codes " " ++ encode_lower (piece 2 id (2 * k))

-- the number of a refusal, its name, and the replicas or keys that it names
abbrev pub refusal_text : CommitteeRefusal → List ℕ
refusal_text Length = codes "1 Length"
refusal_text Magic = codes "2 Magic"
refusal_text Size = codes "3 Size"
refusal_text (KeyCount r) = codes "7 KeyCount " ++ decimal r
refusal_text (Key k) = codes "4 Key " ++ decimal k
refusal_text (SameKey j k) = codes "5 SameKey " ++ decimal j ++ codes " " ++ decimal k
refusal_text (Weight k) = codes "6 Weight " ++ decimal k

-- "fault committee N NAME"
abbrev pub committee_line : CommitteeRefusal → List ℕ
committee_line refusal = codes "fault committee " ++ refusal_text refusal ++ codes "\n"

-- the whole text was written, or a write failed behind a first part of it
abbrev pub Told : Option (List ℕ) → Option (List ℕ) → ℕ → ℕ → List ℕ → Type 0
Told before after failures failures' text =
    ((failures' ≡ failures) × Wrote before after text) ⊎ ((failures' ≡ one_more failures) × WrotePart before after text)
