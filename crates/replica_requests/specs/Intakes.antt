-- What is held of a text while its lines are read.
use Rattle.std.specs.Prelude.{◌≡◌, ◌⊎◌, ◌++◌, ◌∷◌, [], ℕ, Bool, List, length, nat_lt, take}
use Rattle.std.specs.List.{All}
use Rattle.replica_requests.specs.LineReading.{AreRequestsOf, IsLine, ended}
use Rattle.replica_requests.specs.RequestLines.{IsRequestOf}
use Rattle.replica_requests.specs.declared.reading.TheConstants.{LONGEST_LINE, MOST_LINES}
use Rattle.replica_requests.specs.declared.request_line.LineRequest.{LineRequest}

-- the first bytes of a line, and whether it has more than there is room for
pub record HeldLine : Type 0 where
  pub bytes : List ℕ
  pub is_too_long : Bool

-- what is held of a line
unfoldable pub held : List ℕ → HeldLine
held line = record { bytes = take LONGEST_LINE line; is_too_long = nat_lt LONGEST_LINE (length line) }

-- one request more, that of the line
abbrev pub AddsRequestOf : List ℕ → List LineRequest → List LineRequest → Type 0
AddsRequestOf line before after = (request : LineRequest) × IsRequestOf line request × (after ≡ before ++ request ∷ [])

-- of the text so far there are the requests of its lines, and what is held of the part behind them, unless the lines
-- are as many as are read
pub record IsTakenIn (text : List ℕ) (requests : List LineRequest) (line : HeldLine) : Type 0 where
  pub lines : List (List ℕ)
  pub part : List ℕ
  pub spelled : text ≡ ended lines ++ part
  pub each : All IsLine lines
  pub requests_are : AreRequestsOf lines requests
  pub unended : (length requests ≡ MOST_LINES) ⊎ (IsLine part × (line ≡ held part))
