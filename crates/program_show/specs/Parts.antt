-- How words are cut at `--committee`.
use Rattle.std.specs.Prelude.{◌≡◌, ◌≢◌, ◌++◌, ◌<◌, ℕ, List, [], Option, None, IfSome, String, string_bytes, length, take}
use Rattle.std.specs.List.{All, Contains, HoldsAt}
use Rattle.std.specs.declared.alloc.Global.{Global}
use Rattle.program_show.specs.Words.{IsPath, option_word, option_words, texts}

-- the option's first place
pub record IsPlaceOfOption (words : List (String Global)) (i : ℕ) : Type 0 where
  pub within : i < length words
  pub option : HoldsAt (λ w. string_bytes w ≡ option_word) words i
  pub none_before : Contains (texts (take i words)) option_word → ⊥

-- the words before it, the path of a committee's file and the words behind that; all words, where it does not stand
pub record IsCut (words front : List (String Global)) (committee : Option (List ℕ)) (behind : List (String Global)) : Type 0 where
  pub words_are : texts words ≡ texts front ++ (option_words committee ++ texts behind)
  pub none_before : Contains (texts front) option_word → ⊥
  pub path : IfSome committee IsPath
  pub all_before : committee ≡ None → behind ≡ []

-- .. and the words before and behind are paths, one at least
pub record AreParts (words front : List (String Global)) (committee : Option (List ℕ)) (behind : List (String Global)) : Type 0 where
  pub cut : IsCut words front committee behind
  pub some : texts front ++ texts behind ≢ []
  pub paths : All IsPath (texts front ++ texts behind)
