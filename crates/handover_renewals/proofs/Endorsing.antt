-- What is known of good endorsements.
use Rattle.std.proofs.Common.{◌≡◌, ◌≢◌, ℕ, zero, suc, ◌+◌, ◌-◌, ◌*◌, ◌<◌, ◌≤◌, Bool, true, false, nat_eq, List, [], ◌∷◌, length, take, get_or, Some, None, refl, sym, ap, subst, ◌∙◌, inl, inr, arith}
use Rattle.std.specs.List.{All}
use Rattle.std.specs.declared.alloc.Global.{Global}
use Rattle.std.specs.declared.vec.Vec.{Vec}
use Rattle.std.proofs.lemmas.Bool.{cases_Bool, eq-eqb, eqb-true}
use Rattle.std.proofs.lemmas.List.{drop-drop, get_or-take, length-drop, length-map, length-take, take-map, take_all, take_more}
use Rattle.std.proofs.lemmas.List.Elements.{All-head, All-more, All-tail, All-take, All-weaker}
use Rattle.std.proofs.lemmas.List.Quantifiers.{all_pairs_push}
use Rattle.base_wire.specs.Pieces.{AreBytes, piece}
use Rattle.base_wire.proofs.Numbers.{AreBytes-piece}
use Rattle.base_wire.proofs.Order.{refused_fails}
use Rattle.blocks.specs.Committees.{keys_of}
use Rattle.handover_keys.specs.Endorsements.{IsGoodEndorsement, signature_in, statement_in}
use Rattle.handover_keys.specs.NextKeys.{count_in, key_in, next_keys_in, next_keys_text}
use Rattle.handover_keys.specs.NextKeysReading.{HasForm, IsNextKeysRefusal, IsStatement, form_order, next_keys_refusal_number}
use Rattle.handover_keys.specs.declared.statement.NextKeysRefusal.{NextKeysRefusal}
use Rattle.handover_keys.proofs.NextKeysLaws.{found}
use Rattle.handover_renewals.proofs.SlotLaws.{find_at_last, find_more}
use Rattle.handover_renewals.specs.Endorsed.{AreByDifferent, AreGood, AreStated, endorsement_of, nth, replica_of, stated_keys, texts_of}
use Rattle.handover_renewals.specs.Refusals.{IsFirstTwice}

-- what has the form of a statement is not refused
pub not_refused : (statement : List ℕ) (refusal : NextKeysRefusal) → IsNextKeysRefusal statement refusal → IsStatement statement → ⊥
not_refused statement refusal refused is = refused_fails next_keys_refusal_number (HasForm statement) form_order refusal refused is

-- good ones have the form of one
pub stated_of_good : (committee : List ℕ) (es : List (List ℕ)) → AreGood committee es → AreStated es
stated_of_good committee es good = All-weaker (IsGoodEndorsement committee) (λ e. IsStatement (statement_in e)) (λ e is. is.statement) es good

-- ---- the bytes of each

pub length-texts_of : (es : List (Vec ℕ Global)) → length (texts_of es) ≡ length es
length-texts_of es = length-map es (λ e. e.items)

pub text_at : (es : List (Vec ℕ Global)) (k : ℕ) (d : List ℕ) (x : Vec ℕ Global) → k < length es → x ≡ get_or es k x → get_or (texts_of es) k d ≡ x.items
text_at [] k d x below is = absurd (omega arith)
text_at (e ∷ es) zero d x below is = ap (λ (v : Vec ℕ Global). v.items) (sym is)
text_at (e ∷ es) (suc k) d x below is = text_at es k d x (omega arith) is

-- ---- the endorsement of a replica

-- good, and of this replica
pub record IsEndorsementOf (old : List ℕ) (s : ℕ) (e : List ℕ) : Type 0 where
  pub good : IsGoodEndorsement old e
  pub replica : replica_of e ≡ s

pub found_good : (old : List ℕ) (es : List (List ℕ)) (s : ℕ) (e : List ℕ) → AreGood old es → endorsement_of es s ≡ Some e → IsEndorsementOf old s e
unfolding endorsement_of
found_good old [] s e good is = absurd cc
found_good old (d ∷ es) s e good is =
    elim (cases_Bool (nat_eq (replica_of d) s)) [
      | inl here ↦
          let first : d ≡ e = let given = rw here at is in cc in
          subst (IsEndorsementOf old s) first (record { good = All-head (IsGoodEndorsement old) d es good; replica = eqb-true _ _ here })
      | inr there ↦ found_good old es s e (All-tail (IsGoodEndorsement old) d es good) (rw there at is)
    ]

-- .. whose bytes are bytes
pub found_bytes : (es : List (List ℕ)) (s : ℕ) (e : List ℕ) → All AreBytes es → endorsement_of es s ≡ Some e → AreBytes e
unfolding endorsement_of
found_bytes [] s e fit is = absurd cc
found_bytes (d ∷ es) s e fit is =
    elim (cases_Bool (nat_eq (replica_of d) s)) [
      | inl here ↦
          let first : d ≡ e = let given = rw here at is in cc in
          subst AreBytes first (All-head AreBytes d es fit)
      | inr there ↦ found_bytes es s e (All-tail AreBytes d es fit) (rw there at is)
    ]

-- ---- what it states

-- the keys are as many as the replica has
pub count_stated : (old : List ℕ) (s : ℕ) (e : List ℕ) → IsEndorsementOf old s e → count_in (statement_in e) ≡ keys_of old s
count_stated old s e is = is.good.count ∙ ap (keys_of old) is.replica

pub length-stated_keys : (old : List ℕ) (s : ℕ) (e : List ℕ) → IsEndorsementOf old s e → length (stated_keys e) ≡ 56 * keys_of old s
length-stated_keys old s e is =
    let whole : length (statement_in e) ≡ 39 + 56 * count_in (statement_in e) = is.good.statement.1.1.1.0 in
    omega (arith, length-drop 39 (statement_in e), whole, count_stated old s e is)

-- each stands at its place among them
pub key_stated : (e : List ℕ) (k : ℕ) → piece 56 (stated_keys e) (56 * k) ≡ key_in (statement_in e) k
unfolding key_in
key_stated e k = ap (take 56) (drop-drop (56 * k) 39 (statement_in e))

-- the statement is that of what it states
pub statement_is : (old : List ℕ) (s : ℕ) (e : List ℕ) → AreBytes e → IsEndorsementOf old s e → statement_in e ≡ next_keys_text (next_keys_in (statement_in e))
statement_is old s e fit is = (found (statement_in e) (AreBytes-piece (length e - 1453) e 0 fit) is.good.statement).text

-- the signature is long enough
pub length-signature_in : (old : List ℕ) (s : ℕ) (e : List ℕ) → IsEndorsementOf old s e → length (signature_in e) ≡ 1452
length-signature_in old s e is =
    let enough : 39 ≤ length (statement_in e) = is.good.statement.0 in
    omega (arith, length-take (length e - 1453) e, length-drop (length e - 1452) e, enough)

-- ---- as loops meet them

-- what holds of each holds of the one at a place
pub all_at : (P : List ℕ → Type 0) (es : List (Vec ℕ Global)) (k : ℕ) (x : Vec ℕ Global) (b : List ℕ) → All P (texts_of es) → k < length es → x ≡ get_or es k x → b ≡ x.items → P b
all_at P es k x b all below is same =
    subst P (text_at es k [] x below is ∙ sym same) (all k [] (omega (arith, length-texts_of es)))

-- one more
pub all_more : (P : List ℕ → Type 0) (es : List (Vec ℕ Global)) (k : ℕ) (x : Vec ℕ Global) (b : List ℕ) → k < length es → x ≡ get_or es k x → b ≡ x.items
    → All P (take k (texts_of es)) → P b → All P (take (k + 1) (texts_of es))
all_more P es k x b below is same before here =
    All-more P (texts_of es) k [] (omega (arith, length-texts_of es)) before (subst P (same ∙ sym (text_at es k [] x below is)) here)

-- all of them
pub taken_all : (es : List (Vec ℕ Global)) (n : ℕ) → length es ≤ n → take n (texts_of es) ≡ texts_of es
taken_all es n long = take_all n (texts_of es) (omega (arith, length-texts_of es))

pub none_of_none : (s : ℕ) → endorsement_of [] s ≡ None
unfolding endorsement_of
none_of_none s = refl

false_from : (b : Bool) → (b ≡ true → ⊥) → b ≡ false
false_from true h = absurd (h refl)
false_from false h = refl

-- whether one is of a replica
abbrev is_of : ℕ → List ℕ → Bool
is_of s e = nat_eq (replica_of e) s

pub passed_by : (es : List (Vec ℕ Global)) (k s : ℕ) (x : Vec ℕ Global) (b : List ℕ) → k < length es → x ≡ get_or es k x → b ≡ x.items
    → endorsement_of (take k (texts_of es)) s ≡ None → replica_of b ≢ s → endorsement_of (take (k + 1) (texts_of es)) s ≡ None
unfolding endorsement_of
passed_by es k s x b below is same before other =
    let here : get_or (texts_of es) k [] ≡ b = text_at es k [] x below is ∙ sym same in
    find_more (is_of s) (texts_of es) k [] (omega (arith, length-texts_of es)) before (ap (is_of s) here ∙ false_from (is_of s b) (λ t. other (eqb-true _ _ t)))

pub found_by : (es : List (Vec ℕ Global)) (k s : ℕ) (x : Vec ℕ Global) (b : List ℕ) → k < length es → x ≡ get_or es k x → b ≡ x.items
    → endorsement_of (take k (texts_of es)) s ≡ None → replica_of b ≡ s → Some b ≡ endorsement_of (texts_of es) s
unfolding endorsement_of
found_by es k s x b below is same before of =
    let here : get_or (texts_of es) k [] ≡ b = text_at es k [] x below is ∙ sym same in
    sym (find_at_last (is_of s) (texts_of es) k [] (omega (arith, length-texts_of es)) before (ap (is_of s) here ∙ eq-eqb _ _ of) ∙ ap (λ (e : List ℕ). Some e) here)

-- ---- two of one replica

-- the first that was found
pub twice_is : (es : List (Vec ℕ Global)) (earlier later r : ℕ) (x : Vec ℕ Global) (b : List ℕ) → later < length es → x ≡ get_or es later x → b ≡ x.items
    → earlier < length (take later es) → replica_of (nth (texts_of (take later es)) earlier) ≡ r → r ≡ replica_of b → AreByDifferent (take later (texts_of es))
    → IsFirstTwice (texts_of es) earlier later
twice_is es earlier later r x b below is same inside first last before =
    let order : earlier < later = omega (arith, length-take later es) in
    let here : nth (texts_of es) later ≡ b = text_at es later [] x below is ∙ sym same in
    let there : nth (texts_of (take later es)) earlier ≡ nth (texts_of es) earlier =
    ap (λ (ts : List (List ℕ)). nth ts earlier) (sym (take-map (λ (e : Vec ℕ Global). e.items) later es)) ∙ get_or-take later (texts_of es) earlier [] order in
    record {
      there = omega (arith, length-texts_of es);
      order = order;
      before = before;
      same = ap replica_of (sym there) ∙ first ∙ last ∙ ap replica_of (sym here);
    }

-- one more that is of another
pub different_more : (es : List (Vec ℕ Global)) (later r : ℕ) (x : Vec ℕ Global) (b : List ℕ) → later < length es → x ≡ get_or es later x → b ≡ x.items
    → All (λ e. replica_of e ≢ r) (texts_of (take later es)) → r ≡ replica_of b → AreByDifferent (take later (texts_of es)) → AreByDifferent (take (later + 1) (texts_of es))
different_more es later r x b below is same others of before =
    let here : nth (texts_of es) later ≡ b = text_at es later [] x below is ∙ sym same in
    let firsts = take later (texts_of es) in
    let apart : All (λ e. replica_of e ≢ r) firsts =
    subst (All (λ e. replica_of e ≢ r)) (sym (take-map (λ (e : Vec ℕ Global). e.items) later es)) others in
    subst AreByDifferent (sym (take_more (texts_of es) later [] (omega (arith, length-texts_of es)))) (
    all_pairs_push (λ d e. replica_of d ≢ replica_of e) firsts (nth (texts_of es) later) before
    (λ k d inside one. apart k d inside (one ∙ ap replica_of here ∙ sym of)))

-- some of them have the form of one
pub stated_firsts : (es : List (Vec ℕ Global)) (n : ℕ) → AreStated (texts_of es) → AreStated (texts_of (take n es))
stated_firsts es n stated =
    subst AreStated (take-map (λ (e : Vec ℕ Global). e.items) n es) (All-take (λ e. IsStatement (statement_in e)) n (texts_of es) stated)
