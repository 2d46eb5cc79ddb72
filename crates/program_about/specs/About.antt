-- What is told beside files, and for which words.
use Rattle.std.specs.Prelude.{◌≡◌, ◌≢◌, ◌⊎◌, [], ◌∷◌, ℕ, true, List, codes}
use Rattle.blocks.specs.Committees.{IsCommittee}
use Rattle.program_about.specs.Explaining.{AreSaid}
use Rattle.program_about.specs.Sheets.{IsSheet}
use Rattle.program_help.specs.Helps.{word_of}
use Rattle.program_help.specs.declared.asking.Asked.{Asked}
use Rattle.program_about.specs.Versions.{show_text}

-- with one of these the words begin that ask for something beside files
abbrev pub IsOption : List ℕ → Type 0
IsOption word =
    (word ≡ codes "--version") ⊎ ((word ≡ codes "--help") ⊎ ((word ≡ codes "--explain") ⊎ (word ≡ codes "--statement")))

abbrev pub AskBesideFiles : List (List ℕ) → Type 0
AskBesideFiles [] = ⊥
AskBesideFiles (word ∷ words) = IsOption word

-- ---- words that are as written

-- `--explain` and a word at least
abbrev pub AskForLine : List (List ℕ) → Type 0
AskForLine words = (line : List (List ℕ)) × (line ≢ []) × (words ≡ codes "--explain" ∷ line)

abbrev pub statement_words : (verdict committee : List ℕ) → List (List ℕ)
statement_words verdict committee = codes "--statement" ∷ verdict ∷ codes "--committee" ∷ committee ∷ []

-- `--statement VERDICT --committee C`
abbrev pub AskForSheet : List (List ℕ) → Type 0
AskForSheet words = (verdict : List ℕ) × (committee : List ℕ) × (words ≡ statement_words verdict committee)

-- one of the four
abbrev pub AskRightly : List (List ℕ) → Type 0
AskRightly words =
    ((asked : Asked) × (words ≡ word_of asked ∷ [])) ⊎ (AskForLine words ⊎ AskForSheet words)

-- ---- what is told

-- what the program is, to one option alone
pub record TellsItself (words : List (List ℕ)) (status : ℕ) (text : List ℕ) : Type 0 where
  pub asked : Asked
  pub words_are : words ≡ word_of asked ∷ []
  pub status_is : status ≡ 0
  pub text_is : text ≡ show_text asked

-- what is said of a line, or that it is not known
abbrev pub IsExplanation : ℕ → List ℕ → Type 0
IsExplanation status text = ((status ≡ 0) × AreSaid [] text true) ⊎ ((status ≡ 1) × (text ≡ codes "unknown\n"))

-- `--explain` and a word at least
pub record Explains (words : List (List ℕ)) (status : ℕ) (text : List ℕ) : Type 0 where
  pub line : List (List ℕ)
  pub some : line ≢ []
  pub words_are : words ≡ codes "--explain" ∷ line
  pub said : IsExplanation status text

-- the sheet of what two files had
abbrev pub IsSheetOfFiles : ℕ → List ℕ → Type 0
IsSheetOfFiles status text = (committee : List ℕ) × (verdict : List ℕ) × IsCommittee committee × IsSheet committee verdict status text

-- `--statement VERDICT --committee C`
pub record TellsSheet (words : List (List ℕ)) (status : ℕ) (text : List ℕ) : Type 0 where
  pub verdict_path : List ℕ
  pub committee_path : List ℕ
  pub words_are : words ≡ statement_words verdict_path committee_path
  pub sheet : IsSheetOfFiles status text

-- one of these
abbrev pub IsAnswerTo : List (List ℕ) → ℕ → List ℕ → Type 0
IsAnswerTo words status text =
    TellsItself words status text ⊎ (Explains words status text ⊎ TellsSheet words status text)

-- .. with another status than that of a fault
abbrev pub Tells : List (List ℕ) → ℕ → List ℕ → Type 0
Tells words status text = (status ≢ 2) × IsAnswerTo words status text
