-- The lines of a text, and the requests that are read of them.
use Rattle.std.specs.Prelude.{◌≡◌, ◌≢◌, ◌<◌, ◌⊎◌, ◌++◌, ◌∷◌, [], ℕ, List, Option, Some, length, take}
use Rattle.std.specs.List.{All, AllZip, Contains, flat_map}
use Rattle.base_streams.specs.Counting.{one_more}
use Rattle.replica_requests.specs.RequestLines.{IsRequestOf}
use Rattle.replica_requests.specs.declared.reading.TheConstants.{MOST_LINES}
use Rattle.replica_requests.specs.declared.request_line.LineRequest.{LineRequest}

-- ---- lines

-- no line feed stands inside
abbrev pub IsLine : List ℕ → Type 0
IsLine line = Contains line 10 → ⊥

-- each line and its line feed
abbrev pub ended : List (List ℕ) → List ℕ
ended lines = flat_map (λ (line : List ℕ). line ++ 10 ∷ []) lines

-- the text is these lines, each with its line feed, but the last one, which is not empty, has none
abbrev pub LacksLastLineFeed : List ℕ → List (List ℕ) → Type 0
LacksLastLineFeed text lines =
    (front : List (List ℕ)) × (last : List ℕ) × (lines ≡ front ++ last ∷ []) × (last ≢ []) × (text ≡ ended front ++ last)

-- these are the lines of the text
pub record AreLinesOf (text : List ℕ) (lines : List (List ℕ)) : Type 0 where
  pub each : All IsLine lines
  pub spelled : (text ≡ ended lines) ⊎ LacksLastLineFeed text lines

-- ---- requests

-- one for each line, in order
abbrev pub AreRequestsOf : List (List ℕ) → List LineRequest → Type 0
AreRequestsOf lines requests = AllZip IsRequestOf lines requests

-- those of the first 65,536 lines of the text
abbrev pub AreOfText : List ℕ → List LineRequest → Type 0
AreOfText text requests = (lines : List (List ℕ)) × AreLinesOf text lines × AreRequestsOf (take MOST_LINES lines) requests

-- those of the lines that had ended where a read failed: behind them stand a first part of a line, which is dropped,
-- and what the feed has left
pub record AreOfEndedLines (text left : List ℕ) (requests : List LineRequest) : Type 0 where
  pub lines : List (List ℕ)
  pub part : List ℕ
  pub spelled : text ≡ ended lines ++ (part ++ left)
  pub each : All IsLine lines
  pub unended : IsLine part
  pub fewer : length lines < MOST_LINES
  pub requests_are : AreRequestsOf lines requests

-- what is read of a text: all, or a read fails, and then the lines before it
abbrev pub IsWhatWasRead : List ℕ → Option (List ℕ) → ℕ → ℕ → List LineRequest → Type 0
IsWhatWasRead text left failures failures' requests =
    ((failures' ≡ failures) × AreOfText text requests)
    ⊎ ((failures' ≡ one_more failures) × ((rest : List ℕ) × (left ≡ Some rest) × AreOfEndedLines text rest requests))

-- ---- a law

-- two lists of requests of one text are the same
abbrev pub ATextHasOneReading : Type 0
ATextHasOneReading = (text : List ℕ) (a b : List LineRequest) → AreOfText text a → AreOfText text b → a ≡ b
