-- What the words of the command line ask for.
use Rattle.std.specs.Prelude.{◌≡◌, ◌≢◌, ◌<◌, ◌==◌, ◌++◌, ℕ, List, [], ◌∷◌, Bool, false, not, if◌then◌else◌, Option, Some, None, String, codes, length, string_bytes}
use Rattle.std.specs.List.{AllWithin, AllZip, HoldsAt}
use Rattle.std.specs.declared.alloc.Global.{Global}
use Rattle.program_parts.specs.Words.{SpellsSource}
use Rattle.program_parts.specs.declared.program_fault.ProgramFault.{ProgramFault}
use Rattle.program_parts.specs.declared.program_fault.ProgramFault.TheVariants.{Usage as NoUsage, Memory, Own}
use Rattle.program_parts.specs.declared.source_fault.SourceFault.TheVariants.{Word}
use Rattle.program_parts.specs.declared.words.Origin.{Origin}
use Rattle.program_parts.specs.declared.words.Origin.TheVariants.{File, Tcp}
use Rattle.program_parts.specs.declared.words.SourceWord.{SourceWord}
use Rattle.program_draw.specs.declared.fault.DrawFault.{DrawFault}
use Rattle.program_draw.specs.declared.fault.DrawFault.TheVariants.{Sources, Word as Wrong}
use Rattle.program_draw.specs.declared.words.SourceFile.{SourceFile}
use Rattle.program_draw.specs.declared.words.Words.{Words}
use Rattle.program_draw.specs.declared.words.Words.TheVariants.{Usage, Picture}
use Rattle.program_parts.specs.FaultLines.{wrong_word_line}

-- ---- a source

abbrev pub IsFileAt : Origin → List ℕ → Type 0
IsFileAt (File p) path = p.now ≡ path
IsFileAt (Tcp address) path = ⊥

-- "R=file:PATH"
pub record SpellsFile (word : List ℕ) (replica : ℕ) (path : List ℕ) : Type 0 where
  pub source : SourceWord
  pub spelled : SpellsSource word source
  pub of : source.replica ≡ replica
  pub from : IsFileAt source.origin path

-- of no replica and no path
abbrev pub SpellsNoFile : List ℕ → Type 0
SpellsNoFile word = (replica : ℕ) (path : List ℕ) → SpellsFile word replica path → ⊥

abbrev pub IsSource : String Global → SourceFile → Type 0
IsSource word s = SpellsFile (string_bytes word) s.replica s.path.now

abbrev pub AreSources : List (String Global) → List SourceFile → Type 0
AreSources words sources = AllZip IsSource words sources

-- word i is the first that is no source
pub record IsFirstBad (words : List (String Global)) (i : ℕ) : Type 0 where
  pub within : i < length words
  pub bad : HoldsAt (λ w. SpellsNoFile (string_bytes w)) words i
  pub sources_before : AllWithin (λ w. (s : SourceFile) × IsSource w s) words 0 i

-- ---- all words

-- it is not empty and does not begin with '-'
abbrev pub is_path : List ℕ → Bool
is_path [] = false
is_path (c ∷ cs) = not (c == 45)

-- the first of these that is no path; no source begins with '-'
unfoldable pub first_wrong : List (String Global) → Option (List ℕ)
first_wrong [] = None
first_wrong (w ∷ ws) = if is_path (string_bytes w) then first_wrong ws else Some (string_bytes w)

-- one, and one behind it
abbrev pub AreTwo : List (String Global) → Type 0
AreTwo [] = ⊥
AreTwo (word ∷ words) = words ≢ []

-- the path of a committee, and a word behind it
abbrev pub NameSources : List (String Global) → Type 0
NameSources words = (first_wrong words ≡ None) × AreTwo words

-- there are words, and they do not
pub record IsUsage (words : List (String Global)) : Type 0 where
  pub some : words ≢ []
  pub not_sources : NameSources words → ⊥

-- what is told then: the first word that is wrong, if one is, else that one is missing
abbrev pub usage_fault_line : Option (List ℕ) → List ℕ
usage_fault_line (Some word) = wrong_word_line word
usage_fault_line None = codes "fault usage\n"

-- for a picture of these sources under the committee of this file
abbrev pub AskForPicture : List (String Global) → List ℕ → List SourceFile → Type 0
AskForPicture [] committee sources = ⊥
AskForPicture (word ∷ words) committee sources =
    NameSources (word ∷ words) × (string_bytes word ≡ committee) × AreSources words sources

-- with no words for how the program is called
abbrev pub AskFor : List (String Global) → Words → Type 0
AskFor words Usage = words ≡ []
AskFor words (Picture committee sources) = AskForPicture words committee.now sources.items

-- of the words behind the committee's path this is the first that is no source
abbrev pub HaveBadSource : List (String Global) → ℕ → Type 0
HaveBadSource [] i = ⊥
HaveBadSource (word ∷ words) i = NameSources (word ∷ words) × IsFirstBad words i

-- why they ask for nothing
abbrev pub IsWordsFault : List (String Global) → ProgramFault DrawFault → Type 0
IsWordsFault words NoUsage = IsUsage words × (first_wrong words ≡ None)
IsWordsFault words (Own (Wrong word)) = IsUsage words × (first_wrong words ≡ Some word.now)
IsWordsFault words Memory = NameSources words
IsWordsFault words (Own (Sources (Word i))) = HaveBadSource words i
IsWordsFault words fault = ⊥
