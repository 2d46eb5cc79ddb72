-- What the words of the command line ask for.
use Rattle.std.specs.Prelude.{◌≡◌, ◌≢◌, ◌++◌, ℕ, List, [], ◌∷◌, Option, None, Some, IfSome, map, codes, String, string_bytes}
use Rattle.std.specs.Borrow.{Bor}
use Rattle.std.specs.List.{All, Contains}
use Rattle.std.specs.declared.alloc.Global.{Global}

abbrev pub texts : List (String Global) → List (List ℕ)
texts words = map (λ w. string_bytes w) words

abbrev pub paths_in : List (Bor (List ℕ)) → List (List ℕ)
paths_in paths = map (λ p. p.now) paths

-- a path is not empty and does not begin with '-'
abbrev pub IsPath : List ℕ → Type 0
IsPath [] = ⊥
IsPath (c ∷ cs) = c ≢ 45

abbrev pub option_word : List ℕ
option_word = codes "--committee"

-- the words that name a committee's file, if one is named
abbrev pub option_words : Option (List ℕ) → List (List ℕ)
option_words None = []
option_words (Some path) = option_word ∷ path ∷ []

-- the words are the paths of these files, one at least, and anywhere among them those that name a committee's file
pub record AskFor (words : List (String Global)) (files : List (List ℕ)) (committee : Option (List ℕ)) : Type 0 where
  pub front : List (List ℕ)
  pub behind : List (List ℕ)
  pub words_are : texts words ≡ front ++ (option_words committee ++ behind)
  pub files_are : files ≡ front ++ behind
  pub some : files ≢ []
  pub paths : All IsPath files
  pub path : IfSome committee IsPath

-- they ask for nothing
abbrev pub IsUsage : List (String Global) → Type 0
IsUsage words = (files : List (List ℕ)) (committee : Option (List ℕ)) → AskFor words files committee → ⊥
