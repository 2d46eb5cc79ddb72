-- What is told of a call that was answered.
use Rattle.std.specs.Prelude.{◌≡◌, ◌↔◌, ◌≤◌, ◌-◌, Bool, true, false, ℕ, List, ◌++◌, Some, codes, decimal, length}
use Rattle.std.specs.List.{slice_get}
use Rattle.base_text.specs.Printed.{printed}
use Rattle.signer_service.specs.declared.witness.Seen.{Seen}

-- the body is whole, of at most 80 bytes, and ends in a line feed
pub record IsShortLine (seen : Seen) : Type 0 where
  pub whole : seen.length ≡ length seen.body.now
  pub few : seen.length ≤ 80
  pub line : slice_get seen.body.now (length seen.body.now - 1) ≡ Some 10

-- the body, or how many bytes it has
abbrev pub body_told : Bool → Seen → List ℕ
body_told true seen = seen.body.now
body_told false seen = decimal seen.length ++ codes " bytes\n"

-- "METHOD TARGET STATUS BODY"
abbrev pub call_line : Bool → Seen → List ℕ
call_line short seen = seen.method.now ++ (codes " " ++ (seen.target.now ++ (codes " " ++ (decimal seen.status ++ (codes " " ++ body_told short seen)))))

-- the body stands in the line just where it is a short line itself
pub record IsCallLine (seen : Seen) (text : List ℕ) : Type 0 where
  pub short : Bool
  pub told : short ≡ true ↔ IsShortLine seen
  pub line : text ≡ call_line short seen

-- ---- sources and the folder

-- "asking source I WORD"
abbrev pub asking_line : ℕ → List ℕ → List ℕ
asking_line number word = codes "asking source " ++ (decimal number ++ (codes " " ++ (word ++ codes "\n")))

-- "put-back not written DIR/put-back"
abbrev pub unwritten_line : List ℕ → List ℕ
unwritten_line folder = codes "put-back not written " ++ (printed folder ++ codes "/put-back\n")
