-- Words ask for one thing at most.
use Rattle.std.proofs.Common.{◌≡◌, ◌≢◌, ◌⊎◌, ◌<◌, ◌≤◌, ◌+◌, ◌-◌, ℕ, zero, suc, List, [], ◌∷◌, ◌++◌, Option, Some, None, IfSome, map, length, get_or, take, drop, String, string_bytes, inl, inr, refl, sym, ap, ◌∙◌, subst, arith, add-one, append_assoc, drop-cons, take-append-drop}
use Rattle.std.specs.List.{All, Contains}
use Rattle.std.specs.declared.alloc.Global.{Global}
use Rattle.std.proofs.Math.Seq.{take-suc}
use Rattle.std.proofs.lemmas.List.{append-nil, length-drop, take_all}
use Rattle.std.proofs.lemmas.List.Elements.{All-cons, All-contains, All-head, All-push, All-tail, Contains-append_left, Contains-append_right, Contains-push_cases}
use Rattle.program_show.specs.Parts.{AreParts, IsCut, IsPlaceOfOption}
use Rattle.program_show.specs.Words.{AskFor, IsPath, IsUsage, option_word, option_words, texts}

-- ---- lists

rest_of : {X : Type 0} (s x : X) (xs : List X) → (Contains (x ∷ xs) s → ⊥) → Contains xs s → ⊥
rest_of s x xs none c = none (Contains-append_right (x ∷ []) xs s c)

head_of : {X : Type 0} {x y : X} {xs ys : List X} → (x ∷ xs) ≡ (y ∷ ys) → (x ≡ y) × (xs ≡ ys)
head_of e = (cc, cc)

-- two ways to cut a list at the first of such elements are one
one_cut : {X : Type 0} (s : X) (a b c d : List X) → (Contains a s → ⊥) → (Contains c s → ⊥) → a ++ s ∷ b ≡ c ++ s ∷ d → (a ≡ c) × (b ≡ d)
one_cut s [] b [] d none_a none_c e = (refl, (head_of e).1)
one_cut s [] b (y ∷ c) d none_a none_c e = absurd (none_c (0, omega arith, sym (head_of e).0))
one_cut s (x ∷ a) b [] d none_a none_c e = absurd (none_a (0, omega arith, (head_of e).0))
one_cut s (x ∷ a) b (y ∷ c) d none_a none_c e =
    let both = head_of e in
    let more = one_cut s a b c d (rest_of s x a none_a) (rest_of s y c none_c) both.1 in
    let first = both.0 in
    let second = more.0 in
    (cc, more.1)

stands_between : {X : Type 0} (s : X) (a b : List X) → Contains (a ++ s ∷ b) s
stands_between s a b = Contains-append_right a (s ∷ b) s (0, omega arith, refl)

pub texts-append : (a b : List (String Global)) → texts (a ++ b) ≡ texts a ++ texts b
texts-append [] b = refl
texts-append (x ∷ a) b = ap (λ t. string_bytes x ∷ t) (texts-append a b)

no_words : (ws : List (String Global)) (path : List ℕ) (rest : List (List ℕ)) → length ws < 1 → texts ws ≡ path ∷ rest → ⊥
no_words [] path rest none e = let no : ⊥ = cc in no
no_words (w ∷ ws) path rest none e = absurd (omega arith)

texts_taken_suc : (words : List (String Global)) (i : ℕ) (w : String Global) → i < length words → w ≡ get_or words i w
    → texts (take (suc i) words) ≡ texts (take i words) ++ string_bytes w ∷ []
texts_taken_suc [] i w within is = absurd (omega arith)
texts_taken_suc (x ∷ xs) zero w within is = ap (λ (s : String Global). string_bytes s ∷ []) (sym is)
texts_taken_suc (x ∷ xs) (suc i) w within is = ap (λ (t : List (List ℕ)). string_bytes x ∷ t) (texts_taken_suc xs i w (omega arith) is)

pub texts_taken : (words : List (String Global)) (i : ℕ) (w : String Global) → i < length words → w ≡ get_or words i w
    → texts (take (i + 1) words) ≡ texts (take i words) ++ string_bytes w ∷ []
texts_taken words i w within is = rw add-one (texts_taken_suc words i w within is)

-- ---- parts of lists

pub rest_is : (words : List (String Global)) (k : ℕ) → take (length words - k) (drop k words) ≡ drop k words
rest_is words k = take_all (length words - k) (drop k words) (omega (arith, length-drop k words))

all_left : (xs ys : List (List ℕ)) → All IsPath (xs ++ ys) → All IsPath xs
all_left [] ys all = λ k d lt. absurd (omega arith)
all_left (x ∷ xs) ys all = All-cons IsPath x xs (All-head IsPath x (xs ++ ys) all) (all_left xs ys (All-tail IsPath x (xs ++ ys) all))

all_right : (xs ys : List (List ℕ)) → All IsPath (xs ++ ys) → All IsPath ys
all_right [] ys all = all
all_right (x ∷ xs) ys all = all_right xs ys (All-tail IsPath x (xs ++ ys) all)

-- ---- the option's word

option_is_no_path : IsPath option_word → ⊥
option_is_no_path path = path refl

no_option_among : (paths : List (List ℕ)) → All IsPath paths → Contains paths option_word → ⊥
no_option_among paths are c = option_is_no_path (All-contains IsPath paths option_word are c)

-- what stands before a cut is what was asked for in front of the option
asked_cut : (words : List (String Global)) (files : List (List ℕ)) (path : List ℕ) (ask : AskFor words files (Some path)) (a b : List (List ℕ))
    → (Contains a option_word → ⊥) → texts words ≡ a ++ option_word ∷ b → (a ≡ ask.front) × (b ≡ path ∷ ask.behind)
asked_cut words files path ask a b none is =
    let none_front : Contains ask.front option_word → ⊥ =
    λ c. no_option_among files ask.paths (subst (λ (t : List (List ℕ)). Contains t option_word) (sym ask.files_are) (Contains-append_left ask.front ask.behind option_word c)) in
    one_cut option_word a b ask.front (path ∷ ask.behind) none none_front (sym is ∙ ask.words_are)

-- words with the option ask for a committee
asked_with : (words : List (String Global)) (files : List (List ℕ)) (ask : AskFor words files None) (a b : List (List ℕ)) → texts words ≡ a ++ option_word ∷ b → ⊥
asked_with words files ask a b is =
    let all : texts words ≡ files = ask.words_are ∙ sym ask.files_are in
    no_option_among files ask.paths (subst (λ (t : List (List ℕ)). Contains t option_word) (sym is ∙ all) (stands_between option_word a b))

-- words without it do not
asked_without : (words : List (String Global)) (files : List (List ℕ)) (path : List ℕ) (ask : AskFor words files (Some path)) → (Contains (texts words) option_word → ⊥) → ⊥
asked_without words files path ask none =
    none (subst (λ (t : List (List ℕ)). Contains t option_word) (sym ask.words_are) (stands_between option_word ask.front (path ∷ ask.behind)))

-- ---- no usage

-- nothing that is a path stands behind the option
pub no_path_behind : (words : List (String Global)) (a b : List (List ℕ)) → (Contains a option_word → ⊥) → texts words ≡ a ++ option_word ∷ b
    → ((path : List ℕ) (rest : List (List ℕ)) → IsPath path → b ≡ path ∷ rest → ⊥) → IsUsage words
no_path_behind words a b none is none_behind files None ask = asked_with words files ask a b is
no_path_behind words a b none is none_behind files (Some path) ask =
    none_behind path ask.behind ask.path (asked_cut words files path ask a b none is).1

-- what the words ask for stands where they are cut
files_of_cut : (words front : List (String Global)) (committee : Option (List ℕ)) (behind : List (String Global)) → IsCut words front committee behind
    → (files : List (List ℕ)) (asked : Option (List ℕ)) → AskFor words files asked → files ≡ texts front ++ texts behind
files_of_cut words front None behind cut files None ask =
    sym (ask.words_are ∙ sym ask.files_are) ∙ cut.words_are
files_of_cut words front None behind cut files (Some path) ask =
    let all : texts words ≡ texts front =
    cut.words_are ∙ ap (λ (b : List (String Global)). texts front ++ texts b) (cut.all_before refl) ∙ append-nil (texts front) in
    absurd (asked_without words files path ask (subst (λ (t : List (List ℕ)). Contains t option_word → ⊥) (sym all) cut.none_before))
files_of_cut words front (Some path) behind cut files None ask =
    absurd (asked_with words files ask (texts front) (path ∷ texts behind) cut.words_are)
files_of_cut words front (Some path) behind cut files (Some path') ask =
    let both = asked_cut words files path' ask (texts front) (path ∷ texts behind) cut.none_before cut.words_are in
    let first = both.0 in
    let second = (head_of both.1).1 in
    let whole = ask.files_are in
    cc

-- words that are cut, but are no paths
pub no_paths : (words front : List (String Global)) (committee : Option (List ℕ)) (behind : List (String Global)) → IsCut words front committee behind
    → (All IsPath (texts front ++ texts behind) → ⊥) → IsUsage words
no_paths words front committee behind cut none files asked ask =
    none (subst (λ (t : List (List ℕ)). All IsPath t) (files_of_cut words front committee behind cut files asked ask) ask.paths)

-- .. or none at all
pub no_files : (words front : List (String Global)) (committee : Option (List ℕ)) (behind : List (String Global)) → IsCut words front committee behind
    → texts front ++ texts behind ≡ [] → IsUsage words
no_files words front committee behind cut none files asked ask = ask.some (files_of_cut words front committee behind cut files asked ask ∙ none)

-- ---- a usage

-- parts that are as written are what the words ask for
pub ask_for : (words front : List (String Global)) (committee : Option (List ℕ)) (behind : List (String Global)) (files : List (List ℕ))
    → AreParts words front committee behind → files ≡ texts front ++ texts behind → AskFor words files committee
ask_for words front committee behind files parts is = record {
  front = texts front;
  behind = texts behind;
  words_are = parts.cut.words_are;
  files_are = is;
  some = λ none. parts.some (sym is ∙ none);
  paths = subst (λ (t : List (List ℕ)). All IsPath t) (sym is) parts.paths;
  path = parts.cut.path;
}

-- all words, where the option does not stand
pub cut_of_all : (words : List (String Global)) → (Contains (texts words) option_word → ⊥) → IsCut words words None []
cut_of_all words none = record { words_are = sym (append-nil (texts words)); none_before = none; path = tt; all_before = λ _. refl }

next : (i : ℕ) → suc i ≡ i + 1
next i = omega arith

cut_at : (words : List (String Global)) (i : ℕ) (d : String Global) → i < length words → string_bytes (get_or words i d) ≡ option_word
    → texts words ≡ texts (take i words) ++ option_word ∷ texts (drop (i + 1) words)
cut_at words i d within is =
    let parts : words ≡ take i words ++ get_or words i d ∷ drop (i + 1) words =
    sym (take-append-drop i words) ∙ ap (λ (t : List (String Global)). take i words ++ t) (drop-cons words i d within ∙ ap (λ (k : ℕ). get_or words i d ∷ drop k words) (next i)) in
    ap (λ (t : List (String Global)). texts t) parts ∙ texts-append (take i words) (get_or words i d ∷ drop (i + 1) words)
    ∙ ap (λ (t : List ℕ). texts (take i words) ++ t ∷ texts (drop (i + 1) words)) is

-- where it stands
pub place_cuts : (words : List (String Global)) (i : ℕ) → IsPlaceOfOption words i → texts words ≡ texts (take i words) ++ option_word ∷ texts (drop (i + 1) words)
place_cuts [] i at = absurd (let short = at.within in omega arith)
place_cuts (w ∷ ws) i at = cut_at (w ∷ ws) i w at.within (at.option w)

-- ---- behind the option

first_text : (ws : List (String Global)) (p : String Global) (path : List ℕ) (rest : List (List ℕ)) → 0 < length ws → p ≡ get_or ws 0 p → texts ws ≡ path ∷ rest
    → string_bytes p ≡ path
first_text [] p path rest some is e = absurd (omega arith)
first_text (w ∷ ws) p path rest some is e = ap (λ (s : String Global). string_bytes s) is ∙ (head_of e).0

cons_texts : (ws behind : List (String Global)) (p : String Global) → 0 < length ws → p ≡ get_or ws 0 p → behind ≡ drop 1 ws → texts ws ≡ string_bytes p ∷ texts behind
cons_texts [] behind p some is e = absurd (omega arith)
cons_texts (w ∷ ws) behind p some is e =
    ap (λ (s : String Global). string_bytes s ∷ texts ws) (sym is) ∙ ap (λ (t : List (String Global)). string_bytes p ∷ texts t) (sym e)

-- nothing stands behind it
pub none_behind : (words rest : List (String Global)) (i : ℕ) → IsPlaceOfOption words i → rest ≡ drop (i + 1) words → length rest < 1 → IsUsage words
none_behind words rest i at is none =
    no_path_behind words (texts (take i words)) (texts (drop (i + 1) words)) at.none_before (place_cuts words i at)
    (λ path more isp e. no_words (drop (i + 1) words) path more (let e = ap (λ (t : List (String Global)). length t) is in omega arith) e)

-- what stands behind it is no path
pub bad_behind : (words rest : List (String Global)) (i : ℕ) (p : String Global) → IsPlaceOfOption words i → rest ≡ drop (i + 1) words → 0 < length rest → p ≡ get_or rest 0 p
    → (IsPath (string_bytes p) → ⊥) → IsUsage words
bad_behind words rest i p at is some first bad =
    no_path_behind words (texts (take i words)) (texts (drop (i + 1) words)) at.none_before (place_cuts words i at)
    (λ path more isp e. bad (subst (λ (t : List ℕ). IsPath t) (sym (first_text rest p path more some first (ap (λ (t : List (String Global)). texts t) is ∙ e))) isp))

-- a path stands behind it
pub cut_of_path : (words front rest behind : List (String Global)) (i : ℕ) (p : String Global) (path : List ℕ) → IsPlaceOfOption words i → front ≡ take i words
    → rest ≡ drop (i + 1) words → 0 < length rest → p ≡ get_or rest 0 p → behind ≡ drop 1 rest → path ≡ string_bytes p → IsPath path → IsCut words front (Some path) behind
cut_of_path words front rest behind i p path at is_front is some first is_behind is_path isp = record {
  words_are = place_cuts words i at
      ∙ ap (λ (t : List (List ℕ)). texts (take i words) ++ option_word ∷ t)
      (ap (λ (t : List (String Global)). texts t) (sym is) ∙ cons_texts rest behind p some first is_behind ∙ ap (λ (t : List ℕ). t ∷ texts behind) (sym is_path))
      ∙ ap (λ (t : List (String Global)). texts t ++ option_word ∷ path ∷ texts behind) (sym is_front);
  none_before = subst (λ (t : List (String Global)). Contains (texts t) option_word → ⊥) (sym is_front) at.none_before;
  path = isp;
  all_before = λ e. let no : ⊥ = cc in absurd no;
}

-- ---- loops

-- one word more that is not the option
pub none_more : (words : List (String Global)) (i : ℕ) (w : String Global) → i < length words → w ≡ get_or words i w → (Contains (texts (take i words)) option_word → ⊥)
    → string_bytes w ≢ option_word → Contains (texts (take (i + 1) words)) option_word → ⊥
none_more words i w within is none other c =
    elim (Contains-push_cases (texts (take i words)) (string_bytes w) option_word (subst (λ (t : List (List ℕ)). Contains t option_word) (texts_taken words i w within is) c)) [
      | inl before ↦ none before
      | inr e ↦ other e
    ]

-- one path more
pub paths_more : (words : List (String Global)) (i : ℕ) (w : String Global) → i < length words → w ≡ get_or words i w → All IsPath (texts (take i words)) → IsPath (string_bytes w)
    → All IsPath (texts (take (i + 1) words))
paths_more words i w within is are one =
    subst (λ (t : List (List ℕ)). All IsPath t) (sym (texts_taken words i w within is)) (All-push IsPath (texts (take i words)) (string_bytes w) are one)

-- a word that is no path is among them
pub no_paths_at : (words : List (String Global)) (i : ℕ) (w : String Global) → i < length words → w ≡ get_or words i w → (IsPath (string_bytes w) → ⊥) → All IsPath (texts words) → ⊥
no_paths_at [] i w within is none are = absurd (omega arith)
no_paths_at (x ∷ xs) zero w within is none are = none (subst (λ (s : String Global). IsPath (string_bytes s)) (sym is) (All-head IsPath (string_bytes x) (texts xs) are))
no_paths_at (x ∷ xs) (suc i) w within is none are = no_paths_at xs i w (omega arith) is none (All-tail IsPath (string_bytes x) (texts xs) are)

-- ---- parts

pub no_paths_before : (words front : List (String Global)) (committee : Option (List ℕ)) (behind : List (String Global)) → IsCut words front committee behind
    → (All IsPath (texts front) → ⊥) → IsUsage words
no_paths_before words front committee behind cut none = no_paths words front committee behind cut (λ all. none (all_left (texts front) (texts behind) all))

pub no_paths_behind : (words front : List (String Global)) (committee : Option (List ℕ)) (behind : List (String Global)) → IsCut words front committee behind
    → (All IsPath (texts behind) → ⊥) → IsUsage words
no_paths_behind words front committee behind cut none = no_paths words front committee behind cut (λ all. none (all_right (texts front) (texts behind) all))
