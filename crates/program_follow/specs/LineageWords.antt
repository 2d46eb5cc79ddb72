-- What the words of the command line ask for: C0 --lineage DIR [--fetch SOURCE..]
use Rattle.std.specs.Prelude.{◌≡◌, ◌≢◌, ◌<◌, ◌==◌, ℕ, List, [], ◌∷◌, Bool, true, false, not, Option, Some, None, String, bytes_eq, codes, length, option_map, string_bytes, take, if◌then◌else◌, ⊤}
use Rattle.std.specs.Borrow.{Bor}
use Rattle.std.specs.List.{AllZip, HoldsAt}
use Rattle.std.specs.declared.alloc.Global.{Global}
use Rattle.program_parts.specs.Words.{SpellsSource}
use Rattle.program_parts.specs.declared.program_fault.ProgramFault.{ProgramFault}
use Rattle.program_parts.specs.declared.program_fault.ProgramFault.TheVariants.{Usage, Memory, Own}
use Rattle.program_parts.specs.declared.words.SourceWord.{SourceWord}
use Rattle.program_follow.specs.declared.lineage_fault.LineageFault.{LineageFault}
use Rattle.program_follow.specs.declared.lineage_fault.LineageFault.TheVariants.{Word, Source}

-- ---- sources

abbrev pub IsSource : String Global → SourceWord → Type 0
IsSource word s = SpellsSource (string_bytes word) s

abbrev pub AreSources : List (String Global) → List SourceWord → Type 0
AreSources words sources = AllZip IsSource words sources

-- word i is the first that is no source
pub record IsFirstBad (words : List (String Global)) (i : ℕ) : Type 0 where
  pub within : i < length words
  pub bad : HoldsAt (λ w. (s : SourceWord) → IsSource w s → ⊥) words i
  pub before : List SourceWord
  pub are_sources : AreSources (take i words) before

-- ---- which word is wrong

abbrev pub word_in : Option (Bor (List ℕ)) → Option (List ℕ)
word_in word = option_map (λ w. w.now) word

-- not empty, and does not begin with '-'
abbrev pub is_path : List ℕ → Bool
is_path [] = false
is_path (c ∷ cs) = not (c == 45)

abbrev pub wrong_path : List ℕ → Option (List ℕ)
wrong_path word = if is_path word then None else Some word

-- the first of these that is no path; no source begins with '-'
unfoldable pub first_wrong : List (String Global) → Option (List ℕ)
first_wrong [] = None
first_wrong (w ∷ ws) = if is_path (string_bytes w) then first_wrong ws else Some (string_bytes w)

-- of those behind the folder
abbrev pub wrong_behind : List (String Global) → Option (List ℕ)
wrong_behind [] = None
wrong_behind (w ∷ ws) = if bytes_eq (string_bytes w) (codes "--fetch") then first_wrong ws else Some (string_bytes w)

-- the first of the two
abbrev pub or_else : Option (List ℕ) → Option (List ℕ) → Option (List ℕ)
or_else (Some word) other = Some word
or_else None other = other

-- the second word names the form
abbrev pub wrong_word : List (String Global) → Option (List ℕ)
wrong_word [] = None
wrong_word (root ∷ []) = wrong_path (string_bytes root)
wrong_word (root ∷ form ∷ []) = wrong_path (string_bytes root)
wrong_word (root ∷ form ∷ dir ∷ rest) = or_else (wrong_path (string_bytes root)) (or_else (wrong_path (string_bytes dir)) (wrong_behind rest))

-- ---- all words

-- the second word is the name of this form
abbrev pub NameLineage : List (String Global) → Type 0
NameLineage [] = ⊥
NameLineage (root ∷ []) = ⊥
NameLineage (root ∷ form ∷ rest) = string_bytes form ≡ codes "--lineage"

-- the committee's path, the folder and those behind it
abbrev pub AreParts : List (String Global) → (root dir : List ℕ) → List (String Global) → Type 0
AreParts (r ∷ form ∷ d ∷ rest) root dir behind = (string_bytes r ≡ root) × (string_bytes d ≡ dir) × (rest ≡ behind)
AreParts words root dir behind = ⊥

-- none, or the name, and at least one source
abbrev pub AskToFetch : List (String Global) → List SourceWord → Type 0
AskToFetch [] sources = sources ≡ []
AskToFetch (name ∷ words) sources = (words ≢ []) × AreSources words sources

-- for the lineage from the committee of the first path, in the folder at the second, and at these sources
pub record AskForLineage (words : List (String Global)) (root dir : List ℕ) (sources : List SourceWord) : Type 0 where
  pub right : wrong_word words ≡ None
  pub behind : List (String Global)
  pub parts : AreParts words root dir behind
  pub fetch : AskToFetch behind sources

-- why those behind the folder name no sources: one is missing, or is none
abbrev pub IsFetchFault : List (String Global) → ProgramFault LineageFault → Type 0
IsFetchFault (name ∷ sources) Usage = sources ≡ []
IsFetchFault (name ∷ sources) Memory = ⊤
IsFetchFault (name ∷ sources) (Own (Source i)) = IsFirstBad sources i
IsFetchFault words fault = ⊥

-- .. or the folder is missing
abbrev pub IsShortFault : List (String Global) → ProgramFault LineageFault → Type 0
IsShortFault (root ∷ form ∷ dir ∷ behind) fault = IsFetchFault behind fault
IsShortFault words Usage = ⊤
IsShortFault words fault = ⊥

-- why they ask for nothing
abbrev pub IsWordsFault : List (String Global) → ProgramFault LineageFault → Type 0
IsWordsFault words (Own (Word word)) = wrong_word words ≡ Some word.now
IsWordsFault words fault = (wrong_word words ≡ None) × IsShortFault words fault
