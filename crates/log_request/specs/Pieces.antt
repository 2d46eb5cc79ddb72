-- What a server gives of a piece of a step.
use Rattle.std.specs.Prelude.{ℕ, ◌≡◌, ◌≤◌, ◌++◌, List, ⊤, codes, drop, length, take}
use Rattle.base_wire.specs.Pieces.{number_at}
use Rattle.log_request.specs.declared.piece.Fetched.{Fetched}
use Rattle.log_request.specs.declared.piece.Fetched.TheVariants.{Piece, NotThere, Failed}

-- the text's first four bytes are the piece's length, and behind them it stands
pub record BeginsPiece (most : ℕ) (text piece : List ℕ) : Type 0 where
  pub within : length piece ≤ most
  pub size : number_at 4 text 0 ≡ length piece
  pub more : List ℕ
  pub stands : drop 4 text ≡ piece ++ more

-- what was fetched of a text, of a piece with so many bytes at most: the piece, or that the magic says that there is none
abbrev pub IsFetched : ℕ → List ℕ → Fetched → Type 0
IsFetched most text (Piece piece) = BeginsPiece most text piece.items
IsFetched most text NotThere = take 4 text ≡ codes "HSL0"
IsFetched most text Failed = ⊤
