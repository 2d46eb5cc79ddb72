-- The places of headers by their ids.
use Rattle.std.proofs.Common.{◌≡◌, ◌⊎◌, ℕ, zero, suc, ◌<◌, ◌+◌, List, [], ◌∷◌, ◌++◌, length, get_or, Bool, true, false, cond, refl, sym, ◌∙◌, ap, inl, inr, arith}
use Rattle.std.specs.Prelude.{Option, Some, None, is_some, MatchOption, Result, Ok, Err, IsOk, OnOk, slice_index_or}
use Rattle.std.specs.Str.{bytes_eq}
use Rattle.std.proofs.lemmas.Bool.{cases_lt, cases_Bool, false≢true}
use Rattle.std.proofs.lemmas.List.{get_or_append_left, get_or_push}
use Rattle.std.proofs.lemmas.Option.{same_Some}
use Rattle.std.proofs.lemmas.Slice.Eq.{bytes_eq-Decides}
use Rattle.blocks.specs.Headers.{Header, header_id}
use Rattle.blocks.specs.Chains.{NoCollision}
use Rattle.blocks.specs.Chains.{HasNone}
use Rattle.replica_core.specs.Tables.{AllDiffer, ArePlacesById, HasId}

-- one element stands at a place
one_at : {X : Type 0} (xs : List X) (k : ℕ) (x y : X) → k < length xs → get_or xs k x ≡ x → y ≡ get_or xs k y → y ≡ x
one_at [] k x y l e f = absurd (omega arith)
one_at (z ∷ xs) zero x y l e f = f ∙ e
one_at (z ∷ xs) (suc k) x y l e f = one_at xs k x y (omega arith) e f

-- the header at the place of an id
pub found : (hs : List Header) (place : List ℕ → Option ℕ) (id : List ℕ) (k : ℕ) (h : Header) → ArePlacesById hs place → place id ≡ Some k → h ≡ slice_index_or hs k h → HasId hs id h
found hs place id k h p e is =
    let b = p.back id k e in
    let same : h ≡ b.0 = one_at hs k b.0 h b.1 b.2 is in
    ((k, b.1, sym is), ap header_id same ∙ b.3)

pub same_places : (hs : List Header) (old new : List ℕ → Option ℕ) → ArePlacesById hs old → ((q : List ℕ) → new q ≡ old q) → ArePlacesById hs new
same_places hs old new p same = record {
  each = λ k h l e. same (header_id h) ∙ p.each k h l e;
  back = λ id k e. p.back id k (sym (same id) ∙ e);
}

-- ids that differ are told apart
apart : (x y : List ℕ) → (x ≡ y → ⊥) → bytes_eq x y ≡ false
apart x y ne = elim (cases_Bool (bytes_eq x y)) [ inl e ↦ absurd (ne ((bytes_eq-Decides x y).0 e)) | inr e ↦ e ]

at_end : (hs : List Header) (h g : Header) (k : ℕ) → k < length (hs ++ h ∷ []) → get_or (hs ++ h ∷ []) k g ≡ g → ((k < length hs) × (get_or hs k g ≡ g)) ⊎ ((k ≡ length hs) × (h ≡ g))
at_end hs h g k l e =
    elim (cases_lt k (length hs)) [
      | inl b ↦ inl (b, sym (get_or_append_left hs (h ∷ []) g k b) ∙ e)
      | inr b ↦ (let n = length-push hs h in let is : k ≡ length hs = omega arith in inr (is, sym (get_or_push hs h g k (sym is)) ∙ e))
    ]
  where
    length-push : (xs : List Header) (x : Header) → length (xs ++ x ∷ []) ≡ length xs + 1
    length-push [] x = refl
    length-push (y ∷ xs) x = let i = length-push xs x in omega arith

pub pushed_places : (hs : List Header) (h : Header) (old new : List ℕ → Option ℕ) → ArePlacesById hs old → HasNone hs (header_id h) → ((q : List ℕ) → new q ≡ cond (bytes_eq (header_id h) q) (Some (length hs)) (old q)) → ArePlacesById (hs ++ h ∷ []) new
pushed_places hs h old new p none now = record {
  each = λ k g l e. (elim (at_end hs h g k l e) [
    | inl b ↦ now (header_id g) ∙ ap (λ (t : Bool). cond t (Some (length hs)) (old (header_id g))) (apart (header_id h) (header_id g) (λ s. none g (k, b.0, b.1) (sym s))) ∙ p.each k g b.0 b.1
    | inr b ↦ now (header_id g) ∙ ap (λ (t : Bool). cond t (Some (length hs)) (old (header_id g))) ((bytes_eq-Decides (header_id h) (header_id g)).1 (ap header_id b.1)) ∙ ap (λ (n : ℕ). Some n) (sym b.0)
  ]);
  back = λ id k e. (elim (cases_Bool (bytes_eq (header_id h) id)) [
    | inl t ↦
        (let s : Some (length hs) ≡ Some k = sym (now id ∙ ap (λ (u : Bool). cond u (Some (length hs)) (old id)) t) ∙ e in
        let is : length hs ≡ k = same_Some (length hs) k s in
        let n = longer hs h in
        (h, omega arith, get_or_push hs h h k is, (bytes_eq-Decides (header_id h) id).0 t))
    | inr t ↦
        (let s : old id ≡ Some k = sym (now id ∙ ap (λ (u : Bool). cond u (Some (length hs)) (old id)) t) ∙ e in
        let b = p.back id k s in
        let l = b.1 in
        let n = longer hs h in
        (b.0, omega arith, get_or_append_left hs (h ∷ []) b.0 k l ∙ b.2, b.3))
  ]);
}
  where
    longer : (xs : List Header) (x : Header) → length xs < length (xs ++ x ∷ [])
    longer [] x = omega arith
    longer (y ∷ xs) x = let i = longer xs x in omega arith

pub from_ok : {T E P : Type 0} (r : Result T E) → IsOk r → OnOk r P → P
from_ok (Ok v) i p = p
from_ok (Err e) i p = absurd (false≢true i)

-- the same, where the id and the place are known by other names
pub pushed_at : (hs : List Header) (h : Header) (id : List ℕ) (n : ℕ) (old new : List ℕ → Option ℕ) → ArePlacesById hs old → HasNone hs (header_id h) → id ≡ header_id h → n ≡ length hs → ((q : List ℕ) → new q ≡ cond (bytes_eq id q) (Some n) (old q)) → ArePlacesById (hs ++ h ∷ []) new
pushed_at hs h id n old new p none is at now =
    pushed_places hs h old new p none (λ q. now q ∙ ap (λ (i : List ℕ). cond (bytes_eq i q) (Some n) (old q)) is ∙ ap (λ (m : ℕ). cond (bytes_eq (header_id h) q) (Some m) (old q)) at)

pub no_collision : (hs : List Header) (place : List ℕ → Option ℕ) → ArePlacesById hs place → NoCollision hs
no_collision hs place p h k m n e =
    let s : Some m.0 ≡ Some n.0 = sym (p.each m.0 h m.1 m.2) ∙ ap place e ∙ p.each n.0 k n.1 n.2 in
    let i : m.0 ≡ n.0 = same_Some m.0 n.0 s in
    one_at hs n.0 k h n.1 n.2 (sym m.2 ∙ ap (λ (j : ℕ). get_or hs j h) i)

at_itself : (hs : List Header) (k : ℕ) (d : Header) → k < length hs → get_or hs k (get_or hs k d) ≡ get_or hs k d
at_itself [] k d l = absurd (omega arith)
at_itself (x ∷ hs) zero d l = refl
at_itself (x ∷ hs) (suc k) d l = at_itself hs k d (omega arith)

pub all_differ : (hs : List Header) (place : List ℕ → Option ℕ) → ArePlacesById hs place → AllDiffer hs
all_differ hs place p i j d l m e =
    let f = p.each i (get_or hs i d) (omega arith) (at_itself hs i d (omega arith)) in
    let g = p.each j (get_or hs j d) m (at_itself hs j d m) in
    let s : Some i ≡ Some j = sym f ∙ ap (λ (h : Header). place (header_id h)) e ∙ g in
    let k : i ≡ j = same_Some i j s in
    omega arith

-- what a look-up that finds something found
pub some_found : {X : Type 0} (hs : List Header) (id : List ℕ) (now : X → Header) (r : Option X) → is_some r ≡ true → MatchOption r (HasNone hs id) (λ x. HasId hs id (now x)) → (h : Header) × HasId hs id h
some_found hs id now None s m = absurd (false≢true s)
some_found hs id now (Some x) s m = (now x, m)
