-- What a vote signs, as docs/FORMATS.md, "Statement", lays it out.
use Rattle.std.specs.Prelude.{◌≡◌, ◌<◌, ◌^◌, ◌++◌, ℕ, List, codes, length}
use Rattle.byteorder.specs.Endian.{big_bytes}

-- the 76 bytes of a vote on a block's view and id in a chain
unfoldable pub statement_text : List ℕ → ℕ → List ℕ → List ℕ
statement_text chain view id = codes "HSV1" ++ (chain ++ (big_bytes 8 view ++ id))

-- two statements of the same bytes are one
abbrev pub StatementsHaveOneSpelling : Type 0
StatementsHaveOneSpelling =
    (chain chain' : List ℕ) (view view' : ℕ) (id id' : List ℕ)
    → length chain ≡ 32 → length chain' ≡ 32 → view < 2 ^ 64 → view' < 2 ^ 64
    → statement_text chain view id ≡ statement_text chain' view' id'
    → (chain ≡ chain') × (view ≡ view') × (id ≡ id')
