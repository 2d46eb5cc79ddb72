-- What is printed of files.
use Rattle.std.proofs.Common.{◌≡◌, ◌≢◌, ◌⊎◌, ◌<◌, ◌≤◌, ◌+◌, ◌&&◌, ◌==◌, ℕ, zero, suc, option_map, MatchOption, List, [], ◌∷◌, ◌++◌, Bool, true, false, Option, Some, None, Result, Ok, Err, map, length, get_or, take, String, inl, inr, refl, sym, ap, ◌∙◌, subst, arith, add-one, append_assoc}
use Rattle.std.specs.Borrow.{Bor}
use Rattle.std.specs.declared.alloc.Global.{Global}
use Rattle.program_parts.specs.Faults.{IsMemoryOr}
use Rattle.program_parts.specs.declared.no_fault.NoFault.{NoFault}
use Rattle.program_parts.specs.declared.program_fault.ProgramFault.{ProgramFault}
use Rattle.program_parts.specs.declared.program_fault.ProgramFault.TheVariants.{Memory, File, Output}
use Rattle.program_show.specs.Faults.{IsFilesFault, IsStopped}
use Rattle.std.proofs.Math.Seq.{take-suc}
use Rattle.std.specs.List.{Contains}
use Rattle.std.proofs.lemmas.List.{append-nil, length-map, take_all}
use Rattle.std.proofs.lemmas.List.Elements.{Contains-append_right}
use Rattle.base_streams.specs.Streams.{Wrote, WrotePart}
use Rattle.base_streams.proofs.Writing.{wrote_both, wrote_nothing}
use Rattle.base_text.proofs.Pieces.{part_behind}
use Rattle.program_show.specs.Files.{IsPrinted}
use Rattle.program_show.specs.Showing.{ArePrinted, IsGiven, IsPrintedThen, ShowsAll}
use Rattle.program_show.specs.Words.{AskFor, paths_in}

both_true : (a : Bool) → a ≡ (true && a)
both_true true = refl
both_true false = refl

last_whole : (a : Bool) → (true && a) ≡ (a && true)
last_whole true = refl
last_whole false = refl

both_assoc : (a b c : Bool) → ((a && b) && c) ≡ (a && (b && c))
both_assoc true b c = refl
both_assoc false b c = refl

-- nothing is printed of no file
pub printed_none : (committee : Option (List ℕ)) → ArePrinted committee [] [] true
unfolding ArePrinted
printed_none committee = (refl, refl)

-- one file more
pub printed_more : (committee : Option (List ℕ)) (paths : List (List ℕ)) (path text : List ℕ) (are_whole : Bool) (bytes next : List ℕ) (is_whole : Bool)
    → ArePrinted committee paths text are_whole → IsPrinted committee path bytes next is_whole
    → ArePrinted committee (paths ++ path ∷ []) (text ++ next) (are_whole && is_whole)
unfolding ArePrinted
printed_more committee [] path text are_whole bytes next is_whole are one = record {
  bytes = bytes;
  first = next;
  is_whole = is_whole;
  printed = one;
  rest = [];
  others_whole = true;
  others = (refl, refl);
  is = (
    ap (λ (t : List ℕ). t ++ next) are.0 ∙ sym (append-nil next),
    ap (λ (b : Bool). b && is_whole) are.1 ∙ last_whole is_whole,
  );
}
printed_more committee (first ∷ paths) path text are_whole bytes next is_whole are one = record {
  bytes = are.bytes;
  first = are.first;
  is_whole = are.is_whole;
  printed = are.printed;
  rest = are.rest ++ next;
  others_whole = are.others_whole && is_whole;
  others = printed_more committee paths path are.rest are.others_whole bytes next is_whole are.others one;
  is = (
    ap (λ (t : List ℕ). t ++ next) are.is.0 ∙ append_assoc are.first are.rest next,
    ap (λ (b : Bool). b && is_whole) are.is.1 ∙ both_assoc are.is_whole are.others_whole is_whole,
  );
}

paths_taken_suc : (paths : List (Bor (List ℕ))) (i : ℕ) (path : Bor (List ℕ)) → i < length paths → path ≡ get_or paths i path
    → take (suc i) (paths_in paths) ≡ take i (paths_in paths) ++ path.now ∷ []
paths_taken_suc [] i path within is = absurd (omega arith)
paths_taken_suc (p ∷ ps) zero path within is = ap (λ (q : Bor (List ℕ)). q.now ∷ []) (sym is)
paths_taken_suc (p ∷ ps) (suc i) path within is = ap (λ (t : List (List ℕ)). p.now ∷ t) (paths_taken_suc ps i path (omega arith) is)

pub paths_taken : (paths : List (Bor (List ℕ))) (i : ℕ) (path : Bor (List ℕ)) → i < length paths → path ≡ get_or paths i path
    → take (i + 1) (paths_in paths) ≡ take i (paths_in paths) ++ path.now ∷ []
paths_taken paths i path within is = rw add-one (paths_taken_suc paths i path within is)

pub paths_contain : (paths : List (Bor (List ℕ))) (i : ℕ) (path : Bor (List ℕ)) → i < length paths → path ≡ get_or paths i path → Contains (paths_in paths) path.now
paths_contain [] i path within is = absurd (omega arith)
paths_contain (p ∷ ps) zero path within is = (0, omega arith, ap (λ (q : Bor (List ℕ)). q.now) (sym is))
paths_contain (p ∷ ps) (suc i) path within is =
    Contains-append_right (p.now ∷ []) (paths_in ps) path.now (paths_contain ps i path (omega arith) is)

-- all paths
pub printed_all : (committee : Option (List ℕ)) (paths : List (Bor (List ℕ))) (i : ℕ) (text : List ℕ) (are_whole : Bool) → length paths ≤ i
    → ArePrinted committee (take i (paths_in paths)) text are_whole → ArePrinted committee (paths_in paths) text are_whole
printed_all committee paths i text are_whole end are =
    subst (λ (t : List (List ℕ)). ArePrinted committee t text are_whole) (take_all i (paths_in paths) (omega (arith, length-map paths (λ (p : Bor (List ℕ)). p.now)))) are

-- ---- what is shown

pub asked_some : (words : List (String Global)) (files : List (List ℕ)) (committee : Option (Bor (List ℕ))) (path : Bor (List ℕ))
    → AskFor words files (option_map (λ p. p.now) committee) → committee ≡ Some path → AskFor words files (Some path.now)
asked_some words files committee path ask is = subst (λ (o : Option (Bor (List ℕ))). AskFor words files (option_map (λ p. p.now) o)) is ask

pub asked_none : (words : List (String Global)) (files : List (List ℕ)) (committee : Option (Bor (List ℕ)))
    → AskFor words files (option_map (λ p. p.now) committee) → committee ≡ None → AskFor words files None
asked_none words files committee ask is = subst (λ (o : Option (Bor (List ℕ))). AskFor words files (option_map (λ p. p.now) o)) is ask

pub shows_all : (words : List (String Global)) (files files' : List (List ℕ)) (path committee : Option (List ℕ)) (text : List ℕ) (are_whole : Bool)
    → AskFor words files path → IsGiven path committee → files' ≡ files → ArePrinted committee files' text are_whole → ShowsAll words text are_whole
shows_all words files files' path committee text are_whole ask given same printed =
    record { files = files; path = path; asked = ask; committee = committee; given = given; printed = subst (λ (t : List (List ℕ)). ArePrinted committee t text are_whole) same printed }

pub stopped_of : (committee : Option (List ℕ)) (files files' : List (List ℕ)) (fault : ProgramFault NoFault) (before after : Option (List ℕ)) → files' ≡ files
    → IsStopped committee files' fault before after → IsStopped committee files fault before after
stopped_of committee files files' fault before after same is = subst (λ (t : List (List ℕ)). IsStopped committee t fault before after) same is

-- ---- one file after the other

-- a file can't be read
pub stopped_unread : (committee : Option (List ℕ)) (paths : List (Bor (List ℕ))) (i : ℕ) (path : Bor (List ℕ)) (fault : ProgramFault NoFault) (before after : Option (List ℕ))
    (text : List ℕ) (are_whole : Bool) → i < length paths → path ≡ get_or paths i path → ArePrinted committee (take i (paths_in paths)) text are_whole
    → Wrote before after text → IsMemoryOr (File path) fault → IsStopped committee (paths_in paths) fault before after
stopped_unread committee paths i path fault before after text are_whole within is printed wrote why = elim why [
  | inl e ↦ record {
    cause = subst (λ (f : ProgramFault NoFault). IsFilesFault (paths_in paths) f) (sym e) tt;
    count = i;
    text = text;
    are_whole = are_whole;
    printed = printed;
    wrote = λ _. wrote;
    cut_short = λ o. absurd (let no : ◌≡◌ {A = ProgramFault NoFault} Memory Output = sym e ∙ o in let never : ⊥ = cc in never);
  }
  | inr e ↦ record {
    cause = subst (λ (f : ProgramFault NoFault). IsFilesFault (paths_in paths) f) (sym e) (paths_contain paths i path within is);
    count = i;
    text = text;
    are_whole = are_whole;
    printed = printed;
    wrote = λ _. wrote;
    cut_short = λ o. absurd (let no : ◌≡◌ {A = ProgramFault NoFault} (File path) Output = sym e ∙ o in let never : ⊥ = cc in never);
  }
]

-- there is no memory for its lines
pub stopped_memory : (committee : Option (List ℕ)) (files : List (List ℕ)) (i : ℕ) (fault : ProgramFault NoFault) (before after : Option (List ℕ)) (text : List ℕ) (are_whole : Bool)
    → ArePrinted committee (take i files) text are_whole → Wrote before after text → fault ≡ Memory → IsStopped committee files fault before after
stopped_memory committee files i fault before after text are_whole printed wrote e =
    record {
      cause = subst (λ (f : ProgramFault NoFault). IsFilesFault files f) (sym e) tt;
      count = i;
      text = text;
      are_whole = are_whole;
      printed = printed;
      wrote = λ _. wrote;
      cut_short = λ o. absurd (let no : ◌≡◌ {A = ProgramFault NoFault} Memory Output = sym e ∙ o in let never : ⊥ = cc in never);
    }

-- a write failed
pub stopped_output : (committee : Option (List ℕ)) (paths : List (Bor (List ℕ))) (i : ℕ) (path : Bor (List ℕ)) (fault : ProgramFault NoFault) (before mid after : Option (List ℕ))
    (text : List ℕ) (are_whole : Bool) (bytes next : List ℕ) (is_whole : Bool) → i < length paths → path ≡ get_or paths i path
    → ArePrinted committee (take i (paths_in paths)) text are_whole → Wrote before mid text → IsPrinted committee path.now bytes next is_whole → WrotePart mid after next
    → fault ≡ Output → IsStopped committee (paths_in paths) fault before after
stopped_output committee paths i path fault before mid after text are_whole bytes next is_whole within is printed wrote one part e = record {
  cause = subst (λ (f : ProgramFault NoFault). IsFilesFault (paths_in paths) f) (sym e) tt;
  count = i + 1;
  text = text ++ next;
  are_whole = are_whole && is_whole;
  printed = subst (λ (t : List (List ℕ)). ArePrinted committee t (text ++ next) (are_whole && is_whole)) (sym (paths_taken paths i path within is))
      (printed_more committee (take i (paths_in paths)) path.now text are_whole bytes next is_whole printed one);
  wrote = λ other. absurd (other e);
  cut_short = λ _. part_behind before mid after text next wrote part;
}

-- one file more is shown
pub shown_more : (committee : Option (List ℕ)) (paths : List (Bor (List ℕ))) (i : ℕ) (path : Bor (List ℕ)) (before mid after : Option (List ℕ)) (text : List ℕ) (are_whole : Bool)
    (bytes next : List ℕ) (is_whole all : Bool) → i < length paths → path ≡ get_or paths i path → ArePrinted committee (take i (paths_in paths)) text are_whole
    → Wrote before mid text → IsPrinted committee path.now bytes next is_whole → Wrote mid after next → all ≡ (are_whole && is_whole)
    → (whole : List ℕ) × ArePrinted committee (take (i + 1) (paths_in paths)) whole all × Wrote before after whole
shown_more committee paths i path before mid after text are_whole bytes next is_whole all within is printed wrote one more e = (
  text ++ next,
  subst (λ (b : Bool). ArePrinted committee (take (i + 1) (paths_in paths)) (text ++ next) b) (sym e)
      (subst (λ (t : List (List ℕ)). ArePrinted committee t (text ++ next) (are_whole && is_whole)) (sym (paths_taken paths i path within is))
      (printed_more committee (take i (paths_in paths)) path.now text are_whole bytes next is_whole printed one)),
  wrote_both before mid after text next wrote more,
)

item_of : (paths : List (Bor (List ℕ))) (i : ℕ) (d d' : Bor (List ℕ)) → i < length paths → get_or paths i d ≡ get_or paths i d'
item_of [] i d d' within = absurd (omega arith)
item_of (p ∷ ps) zero d d' within = refl
item_of (p ∷ ps) (suc i) d d' within = item_of ps i d d' (omega arith)

-- an item is one, whatever stands in for none
pub item_again : (paths : List (Bor (List ℕ))) (i : ℕ) (d : Bor (List ℕ)) → i < length paths → get_or paths i d ≡ get_or paths i (get_or paths i d)
item_again paths i d within = item_of paths i d (get_or paths i d) within
