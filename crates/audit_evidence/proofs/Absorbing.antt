-- Lists that are added to what was gathered.
use Rattle.std.proofs.Common.{◌≡◌, ◌↔◌, ◌∙◌, ◌<◌, ◌+◌, ℕ, List, [], ◌∷◌, ◌++◌, length, take, drop, get_or, inl, inr, sym, ap, subst, arith}
use Rattle.std.specs.List.{Contains}
use Rattle.std.proofs.lemmas.List.{take_more, get_or_default, take-append-drop}
use Rattle.std.proofs.lemmas.List.Elements.{Contains-append_right, Contains-append_left, Contains-append_cases}
use Rattle.blocks.specs.Headers.{Header}
use Rattle.certificates.specs.declared.vote.SignedVote.{SignedVote}
use Rattle.audit_evidence.specs.Sets.{IsEither}
use Rattle.audit_evidence.specs.Gathering.{Gathered, Grows, IsNone, IsGatheringRefusal}
use Rattle.audit_evidence.specs.declared.refusal.EvidenceRefusal.{EvidenceRefusal}
use Rattle.audit_evidence.proofs.Gatherings.{only, fault_later, grown_as, grown_both, grown_none, none_of}

-- one more
pub contains_more : {A : Type 0} (xs : List A) (x h : A) → IsEither (Contains xs) (λ y. y ≡ x) h ↔ Contains (xs ++ x ∷ []) h
contains_more xs x h = (
  λ w. elim w [ inl c ↦ Contains-append_left xs (x ∷ []) h c | inr e ↦ Contains-append_right xs (x ∷ []) h (0, omega arith, sym e) ],
  λ c. elim (Contains-append_cases xs (x ∷ []) h c) [ inl i ↦ inl i | inr o ↦ inr (sym (only x h o)) ],
)

pub contains_take : {A : Type 0} (xs : List A) (i : ℕ) (x h : A) → i < length xs → x ≡ get_or xs i x → IsEither (Contains (take i xs)) (λ y. y ≡ x) h ↔ Contains (take (i + 1) xs) h
contains_take {A} xs i x h l is =
    subst (λ (ys : List A). IsEither (Contains (take i xs)) (λ y. y ≡ x) h ↔ Contains ys h)
    (ap (λ (y : A). take i xs ++ y ∷ []) is ∙ sym (take_more xs i x l)) (contains_more (take i xs) x h)

contains_nothing : {A : Type 0} (h : A) → IsNone h ↔ Contains [] h
contains_nothing h = (λ n. absurd n, λ c. let l = c.1 in absurd (omega arith))

pub headers_start : (g : Gathered) → Grows g g (Contains []) IsNone
headers_start g = grown_as g g IsNone (Contains []) IsNone IsNone (λ h. contains_nothing h) (λ v. (λ n. n, λ n. n)) (grown_none g)

pub votes_start : (g : Gathered) → Grows g g IsNone (Contains [])
votes_start g = grown_as g g IsNone IsNone IsNone (Contains []) (λ h. (λ n. n, λ n. n)) (λ v. contains_nothing v) (grown_none g)

pub headers_more : (a b c : Gathered) (hs : List Header) (i : ℕ) (x : Header) → i < length hs → x ≡ get_or hs i x → Grows a b (Contains (take i hs)) IsNone → Grows b c (λ h. h ≡ x) IsNone → Grows a c (Contains (take (i + 1) hs)) IsNone
headers_more a b c hs i x l is g step =
    grown_as a c _ _ _ _ (λ h. contains_take hs i x h l is) (λ v. none_of v) (grown_both a b c (Contains (take i hs)) (λ h. h ≡ x) IsNone IsNone g step)

pub votes_more : (a b c : Gathered) (vs : List SignedVote) (i : ℕ) (x : SignedVote) → i < length vs → x ≡ get_or vs i x → Grows a b IsNone (Contains (take i vs)) → Grows b c IsNone (λ v. v ≡ x) → Grows a c IsNone (Contains (take (i + 1) vs))
votes_more a b c vs i x l is g step =
    grown_as a c _ _ _ _ (λ h. none_of h) (λ v. contains_take vs i x v l is) (grown_both a b c IsNone IsNone (Contains (take i vs)) (λ v. v ≡ x) g step)

pub headers_fault : (a b : Gathered) (hs : List Header) (i : ℕ) (x : Header) (r : EvidenceRefusal) → i < length hs → x ≡ get_or hs i x → Grows a b (Contains (take i hs)) IsNone → IsGatheringRefusal b (λ h. h ≡ x) r → IsGatheringRefusal a (Contains hs) r
headers_fault a b hs i x r l is g fault =
    fault_later a b (Contains (take i hs)) (λ h. h ≡ x) (Contains hs) IsNone r g
    (λ h c. subst (λ (ks : List Header). Contains ks h) (take-append-drop i hs) (Contains-append_left (take i hs) (drop i hs) h c))
    (λ h e. (i, l, get_or_default hs i h x l ∙ sym is ∙ sym e)) fault
