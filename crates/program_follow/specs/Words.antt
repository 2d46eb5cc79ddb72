-- What the words of the command line ask for.
use Rattle.std.specs.Prelude.{◌≡◌, ◌≢◌, ◌<◌, ◌-◌, ◌&&◌, ◌==◌, ◌++◌, ℕ, List, [], ◌∷◌, Bool, false, not, if◌then◌else◌, Option, Some, None, String, bytes_eq, codes, cond, leb, length, map, option_map, slice_index_or, string_bytes, take}
use Rattle.std.specs.Borrow.{Bor}
use Rattle.std.specs.List.{AllZip, HoldsAt}
use Rattle.std.specs.declared.alloc.Global.{Global}
use Rattle.program_parts.specs.Words.{SpellsSource}
use Rattle.program_parts.specs.declared.program_fault.ProgramFault.{ProgramFault}
use Rattle.program_parts.specs.declared.program_fault.ProgramFault.TheVariants.{Usage as NoUsage, Memory, Own}
use Rattle.program_parts.specs.declared.source_fault.SourceFault.TheVariants.{Word}
use Rattle.program_parts.specs.declared.words.SourceWord.{SourceWord}
use Rattle.program_follow.specs.declared.fault.FollowFault.{FollowFault}
use Rattle.program_follow.specs.declared.fault.FollowFault.TheVariants.{Sources, Word as Wrong}
use Rattle.program_follow.specs.declared.words.Words.{Words}
use Rattle.program_follow.specs.declared.words.Words.TheVariants.{Usage, Step}
use Rattle.program_parts.specs.FaultLines.{wrong_word_line}

-- ---- sources

abbrev pub IsSource : String Global → SourceWord → Type 0
IsSource word s = SpellsSource (string_bytes word) s

abbrev pub AreSources : List (String Global) → List SourceWord → Type 0
AreSources words sources = AllZip IsSource words sources

-- word i is the first that is no source
pub record IsFirstBad (words : List (String Global)) (i : ℕ) : Type 0 where
  pub within : i < length words
  pub bad : HoldsAt (λ w. (s : SourceWord) → IsSource w s → ⊥) words i
  pub before : List SourceWord
  pub are_sources : AreSources (take i words) before

-- ---- paths behind names

abbrev pub path_in : Option (Bor (List ℕ)) → Option (List ℕ)
path_in path = option_map (λ p. p.now) path

abbrev pub texts : List (String Global) → List (List ℕ)
texts words = map (λ w. string_bytes w) words

-- this name stands before the last word
abbrev pub ends_with : List ℕ → List (String Global) → Bool
ends_with name words = leb 2 (length words) && bytes_eq (slice_index_or (texts words) (length words - 2) []) name

-- the last word, behind it
abbrev pub path_behind : List ℕ → List (String Global) → Option (List ℕ)
path_behind name words = cond (ends_with name words) (Some (slice_index_or (texts words) (length words - 1) [])) None

-- the words before it
abbrev pub words_before : List ℕ → List (String Global) → List (String Global)
words_before name words = cond (ends_with name words) (take (length words - 2) words) words

unfoldable pub light_of : List (String Global) → Option (List ℕ)
light_of words = path_behind (codes "--light") words

abbrev pub before_light : List (String Global) → List (String Global)
before_light words = words_before (codes "--light") words

-- before the name of the light proof's path
unfoldable pub proof_of : List (String Global) → Option (List ℕ)
proof_of words = path_behind (codes "--proof") (before_light words)

abbrev pub before_proof : List (String Global) → List (String Global)
before_proof words = words_before (codes "--proof") (before_light words)

-- before the name of the proof's path
unfoldable pub renewal_of : List (String Global) → Option (List ℕ)
renewal_of words = path_behind (codes "--renewal") (before_proof words)

unfoldable pub before_renewal : List (String Global) → List (String Global)
before_renewal words = words_before (codes "--renewal") (before_proof words)

-- ---- which word is wrong

-- it is not empty, and does not begin with '-'
abbrev pub is_path : List ℕ → Bool
is_path [] = false
is_path (c ∷ cs) = not (c == 45)

-- the first of these that is no path; no source begins with '-'
unfoldable pub first_wrong : List (String Global) → Option (List ℕ)
first_wrong [] = None
first_wrong (w ∷ ws) = if is_path (string_bytes w) then first_wrong ws else Some (string_bytes w)

-- the path, if there is one and it is none
abbrev pub wrong_path : Option (List ℕ) → Option (List ℕ)
wrong_path None = None
wrong_path (Some path) = if is_path path then None else Some path

-- the first of the two
abbrev pub or_else : Option (List ℕ) → Option (List ℕ) → Option (List ℕ)
or_else (Some word) other = Some word
or_else None other = other

-- of all words; the names of the paths behind are none of these
abbrev pub wrong_word : List (String Global) → Option (List ℕ)
wrong_word words =
    or_else (first_wrong (before_renewal words)) (or_else (wrong_path (renewal_of words)) (or_else (wrong_path (proof_of words)) (wrong_path (light_of words))))

-- ---- all words

-- two, and one behind them
abbrev pub AreThree : List (String Global) → Type 0
AreThree (old ∷ new ∷ sources) = sources ≢ []
AreThree words = ⊥

-- two paths and a word behind them, and a path of the renewal, one for the proof, and one for the light proof, if they are asked for
abbrev pub NameStep : List (String Global) → Type 0
NameStep words = (wrong_word words ≡ None) × AreThree (before_renewal words)

-- there are words, and they do not
pub record IsUsage (words : List (String Global)) : Type 0 where
  pub some : words ≢ []
  pub no_step : NameStep words → ⊥

-- what is told then: the first word that is wrong, if one is, else that one is missing
abbrev pub usage_fault_line : Option (List ℕ) → List ℕ
usage_fault_line (Some word) = wrong_word_line word
usage_fault_line None = codes "fault usage\n"

-- two paths, and sources behind them
abbrev pub AreTwoAndSources : List (String Global) → (old new : List ℕ) → List SourceWord → Type 0
AreTwoAndSources (o ∷ n ∷ words) old new sources = (string_bytes o ≡ old) × (string_bytes n ≡ new) × AreSources words sources
AreTwoAndSources words old new sources = ⊥

-- where its proof goes to, and its light proof, if they are asked for
pub record OutPaths : Type 0 where
  pub proof : Option (List ℕ)
  pub light : Option (List ℕ)

abbrev pub outs_in : Option (Bor (List ℕ)) → Option (Bor (List ℕ)) → OutPaths
outs_in proof light = record { proof = path_in proof; light = path_in light }

-- for a step from the committee of the first file to that of the second, by these sources, with the renewal at this path, and its proofs at
-- these
pub record AskForStep (words : List (String Global)) (old new : List ℕ) (sources : List SourceWord) (renewal : Option (List ℕ)) (outs : OutPaths) : Type 0 where
  pub named : NameStep words
  pub are : AreTwoAndSources (before_renewal words) old new sources
  pub renewal_is : renewal ≡ renewal_of words
  pub proof_is : outs.proof ≡ proof_of words
  pub light_is : outs.light ≡ light_of words

-- with no words for how the program is called
abbrev pub AskFor : List (String Global) → Words → Type 0
AskFor words Usage = words ≡ []
AskFor words (Step step) = AskForStep words step.old.now step.new.now step.sources.items (path_in step.renewal) (outs_in step.proof step.light)

-- of the words behind two paths this is the first that is no source
abbrev pub IsBadBehind : List (String Global) → ℕ → Type 0
IsBadBehind (o ∷ n ∷ words) i = IsFirstBad words i
IsBadBehind words i = ⊥

abbrev pub HaveBadSource : List (String Global) → ℕ → Type 0
HaveBadSource words i = NameStep words × IsBadBehind (before_renewal words) i

-- why they ask for nothing
abbrev pub IsWordsFault : List (String Global) → ProgramFault FollowFault → Type 0
IsWordsFault words NoUsage = IsUsage words × (wrong_word words ≡ None)
IsWordsFault words (Own (Wrong word)) = IsUsage words × (wrong_word words ≡ Some word.now)
IsWordsFault words Memory = NameStep words
IsWordsFault words (Own (Sources (Word i))) = HaveBadSource words i
IsWordsFault words fault = ⊥
