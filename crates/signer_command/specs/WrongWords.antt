-- Which word of the command line is wrong by itself.
use Rattle.std.specs.Prelude.{◌≡◌, ◌≤◌, ◌<◌, ◌^◌, ◌⊎◌, ◌||◌, ◌&&◌, ℕ, List, [], ◌∷◌, Bool, not, Option, Some, None, String, IsTrue, bytes_eq, codes, decimal, is_some, length, nat_eq, nat_lt, option_map, string_bytes, if◌then◌else◌}
use Rattle.std.specs.Borrow.{Bor}
use Rattle.std.specs.List.{starts_with}
use Rattle.std.specs.declared.alloc.Global.{Global}
use Rattle.program_parts.specs.Words.{SpellsNumber, SpellsSource}
use Rattle.program_parts.specs.declared.words.SourceWord.{SourceWord}
use Rattle.signer_calls.specs.Places.{IsIdOf}
use Rattle.signer_command.specs.declared.wrong_words.Awaited.{Awaited}
use Rattle.signer_command.specs.declared.wrong_words.Awaited.TheVariants as awaits
use Rattle.signer_command.specs.declared.wrong_words.Named.{Named}
use Rattle.signer_command.specs.declared.wrong_words.Named.TheVariants as names
use Rattle.signer_command.specs.declared.wrong_words.Takes.{Takes}
use Rattle.signer_command.specs.declared.wrong_words.Takes.TheVariants as takes

abbrev pub word_in : Option (Bor (List ℕ)) → Option (List ℕ)
word_in word = option_map (λ w. w.now) word

-- ---- options

-- one that takes nothing
abbrev pub is_switch : List ℕ → Bool
is_switch word = bytes_eq word (codes "--group") || (bytes_eq word (codes "--while-input") || (bytes_eq word (codes "--verbose") || bytes_eq word (codes "--renew")))

-- one of those that take a name, a path or an address
abbrev pub takes_name : List ℕ → Bool
takes_name word = bytes_eq word (codes "--read") || (bytes_eq word (codes "--serve") || (bytes_eq word (codes "--successor") || bytes_eq word (codes "--host")))

-- what an option takes
abbrev pub takes_of : List ℕ → Option Takes
takes_of word =
    if bytes_eq word (codes "--listen") then Some takes.Place else
    (if bytes_eq word (codes "--ask") then Some takes.Source else
    (if bytes_eq word (codes "--sessions") then Some takes.Sessions else
    (if bytes_eq word (codes "--furthest") then Some takes.View else
    (if bytes_eq word (codes "--keep") then Some takes.Count else
    (if bytes_eq word (codes "--compared") then Some takes.Chain else
    (if takes_name word then Some takes.Name else None))))))

-- written as an option is
abbrev pub is_dashed : List ℕ → Bool
is_dashed word = nat_lt 1 (length word) && starts_with nat_eq word (codes "-")

-- ---- words

-- a path, a name or an address
abbrev pub is_name : List ℕ → Bool
is_name word = nat_lt 0 (length word) && not (is_dashed word)

abbrev pub is_place : List ℕ → Bool
is_place word = (starts_with nat_eq word (codes "unix:") && nat_lt 5 (length word)) || (starts_with nat_eq word (codes "tcp:") && nat_lt 4 (length word))

-- what an option takes
abbrev pub IsValue : Takes → List ℕ → Type 0
IsValue takes.Place word = IsTrue (is_place word)
IsValue takes.Name word = IsTrue (is_name word)
IsValue takes.Sessions word = (n : ℕ) × SpellsNumber word n × (1 ≤ n) × (n ≤ 64)
IsValue takes.View word = (n : ℕ) × (n < 2 ^ 64) × (word ≡ decimal n)
IsValue takes.Count word = (n : ℕ) × SpellsNumber word n
IsValue takes.Chain word = (id : List ℕ) × IsIdOf word (Some id)
IsValue takes.Source word = (s : SourceWord) × SpellsSource word s

-- what is named by its place alone
abbrev pub IsPlain : Named → List ℕ → Type 0
IsPlain names.Committee word = IsTrue (is_name word)
IsPlain names.Replica word = (n : ℕ) × SpellsNumber word n
IsPlain names.Folder word = IsTrue (is_name word)
IsPlain names.Nothing word = ⊥

abbrev pub IsGood : Awaited → List ℕ → Type 0
IsGood (awaits.Value it named) word = IsValue it word
IsGood (awaits.Word named) word = IsTrue (is_switch word) ⊎ (IsTrue (is_some (takes_of word)) ⊎ IsPlain named word)

-- ---- one after the other

abbrev pub next_named : Named → Named
next_named names.Committee = names.Replica
next_named names.Replica = names.Folder
next_named names.Folder = names.Nothing
next_named names.Nothing = names.Nothing

abbrev pub behind_word : Named → Option Takes → Awaited
behind_word named (Some it) = awaits.Value it named
behind_word named None = awaits.Word (next_named named)

abbrev pub next_awaited : Awaited → List ℕ → Awaited
next_awaited (awaits.Value it named) word = awaits.Word named
next_awaited (awaits.Word named) word = if is_switch word then awaits.Word named else behind_word named (takes_of word)

-- the first word that is not as it is to be where it stands, if one is not
unfoldable pub IsFirstWrong : Awaited → List (String Global) → Option (List ℕ) → Type 0
IsFirstWrong awaited [] wrong = wrong ≡ None
IsFirstWrong awaited (w ∷ ws) wrong =
    (IsGood awaited (string_bytes w) × IsFirstWrong (next_awaited awaited (string_bytes w)) ws wrong)
    ⊎ ((IsGood awaited (string_bytes w) → ⊥) × (wrong ≡ Some (string_bytes w)))
