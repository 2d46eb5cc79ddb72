-- Slots, as loops meet them.
use Rattle.std.proofs.Common.{◌≡◌, ℕ, zero, suc, ◌+◌, ◌*◌, ◌<◌, ◌≢◌, Bool, true, false, List, [], ◌∷◌, ◌++◌, ◌&&◌, length, take, drop, get_or, Some, None, inl, inr, refl, sym, ap, ◌∙◌, arith, add-one, append_assoc, nat_eq}
use Rattle.std.specs.Prelude.{codes, option_map}
use Rattle.std.specs.List.{concat, find}
use Rattle.std.specs.Str.{bytes_eq}
use Rattle.std.proofs.lemmas.Bool.{cases_lt, eq-eqb, eqb-true}
use Rattle.std.proofs.lemmas.List.{append-nil, length-append, take_more, take-append-drop, drop_more}
use Rattle.std.proofs.lemmas.List.Folds.{concat-append, find-append}
use Rattle.byteorder.specs.Endian.{big_bytes}
use Rattle.blocks.specs.Committees.{key_at, keys_of}
use Rattle.certificates.specs.Certificates.{Certificate, nth_endorsement, vote_of}
use Rattle.certificates.specs.declared.certificate.Endorsement.{Endorsement}
use Rattle.certificates.specs.declared.vote.SignedVote.{SignedVote}
use Rattle.handover_keys.specs.NextKeys.{next_keys_text}
use Rattle.handover_renewals.specs.Slots.{keys_upto, same_keys, slot_keys, slot_statement}

-- ---- the keys of a slot

pub length-keys_upto : (committee : List ℕ) (s n : ℕ) → length (keys_upto committee s n) ≡ n
unfolding keys_upto
length-keys_upto committee s zero = refl
length-keys_upto committee s (suc n) = length-append (keys_upto committee s n) (key_at committee s n ∷ []) ∙ omega (arith, length-keys_upto committee s n)

concat-keys_upto : (committee : List ℕ) (s k : ℕ) → concat (keys_upto committee s (k + 1)) ≡ concat (keys_upto committee s k) ++ key_at committee s k
unfolding keys_upto
concat-keys_upto committee s k =
    rw add-one (concat-append (keys_upto committee s k) (key_at committee s k ∷ []) ∙ ap (λ (t : List ℕ). concat (keys_upto committee s k) ++ t) (append-nil (key_at committee s k)))

-- what stands before the keys
abbrev pub head_of : List ℕ → ℕ → ℕ → List ℕ
head_of chain s count = codes "HSE1" ++ (chain ++ (big_bytes 2 s ++ count ∷ []))

-- no keys so far
pub put_none : (committee head bytes : List ℕ) (s : ℕ) → take 39 bytes ≡ head → take 39 bytes ≡ head ++ concat (keys_upto committee s 0)
unfolding keys_upto
put_none committee head bytes s is = is ∙ sym (append-nil head)

-- one more
pub put_more : (committee head before after key : List ℕ) (s k at n : ℕ) → at ≡ 39 + 56 * k → n ≡ 56 → key ≡ key_at committee s k
    → take (39 + 56 * k) before ≡ head ++ concat (keys_upto committee s k) → take (at + n) after ≡ take at before ++ key
    → take (39 + 56 * (k + 1)) after ≡ head ++ concat (keys_upto committee s (k + 1))
put_more committee head before after key s k at n place long is so_far put =
    let end : 39 + 56 * (k + 1) ≡ at + n = omega (arith, place, long) in
    ap (λ (i : ℕ). take i after) end ∙ put ∙ (λ i. take (place i) before ++ is i)
    ∙ ap (λ (t : List ℕ). t ++ key_at committee s k) so_far
    ∙ append_assoc head (concat (keys_upto committee s k)) (key_at committee s k)
    ∙ ap (λ (t : List ℕ). head ++ t) (sym (concat-keys_upto committee s k))

-- all of them
pub put_all : (committee chain bytes : List ℕ) (s k count : ℕ) → count ≡ keys_of committee s → k ≡ count
    → take (39 + 56 * k) bytes ≡ head_of chain s count ++ concat (keys_upto committee s k)
    → take (39 + 56 * count) bytes ≡ next_keys_text (slot_statement chain committee s)
unfolding next_keys_text
put_all committee chain bytes s k count is end so_far =
    let keys = slot_keys committee s in
    let long : count ≡ length keys = is ∙ sym (length-keys_upto committee s (keys_of committee s)) in
    ap (λ (i : ℕ). take (39 + 56 * i) bytes) (sym end) ∙ so_far
    ∙ (λ i. head_of chain s (long i) ++ concat (keys_upto committee s ((end ∙ is) i)))
    ∙ simp append_assoc

-- ---- slots that are kept

pub same_none : (old new : List ℕ) (s : ℕ) → same_keys old new s 0 ≡ true
unfolding same_keys
same_none old new s = refl

both : (a b : Bool) → a ≡ true → b ≡ true → (a && b) ≡ true
both a b e f = rw (e, f) refl

pub same_more : (old new : List ℕ) (s k : ℕ) → same_keys old new s k ≡ true → bytes_eq (key_at old s k) (key_at new s k) ≡ true → same_keys old new s (k + 1) ≡ true
unfolding same_keys
same_more old new s k before here = rw add-one (both _ _ before here)

neither : (a b : Bool) → b ≡ false → (a && b) ≡ false
neither true b e = e
neither false b e = refl

first_false : (a b : Bool) → a ≡ false → (a && b) ≡ false
first_false a b e = rw e refl

pub same_less : (old new : List ℕ) (s k n : ℕ) → k < n → bytes_eq (key_at old s k) (key_at new s k) ≡ false → same_keys old new s n ≡ false
unfolding same_keys
same_less old new s k zero below other = absurd (omega arith)
same_less old new s k (suc n) below other =
    elim (cases_lt k n) [
      | inl inside ↦ first_false _ _ (same_less old new s k n inside other)
      | inr past ↦ let last : n ≡ k = omega arith in neither (same_keys old new s n) _ (ap (λ (i : ℕ). bytes_eq (key_at old s i) (key_at new s i)) last ∙ other)
    ]

-- ---- the first of a list

pub find_more : {X : Type 0} (p : X → Bool) (xs : List X) (k : ℕ) (d : X) → k < length xs → find p (take k xs) ≡ None → p (get_or xs k d) ≡ false → find p (take (k + 1) xs) ≡ None
find_more p xs k d below before here =
    ap (find p) (take_more xs k d below) ∙ find-append p (take k xs) (get_or xs k d ∷ []) ∙ rw (before, here) refl

pub find_at_last : {X : Type 0} (p : X → Bool) (xs : List X) (k : ℕ) (d : X) → k < length xs → find p (take k xs) ≡ None → p (get_or xs k d) ≡ true → find p xs ≡ Some (get_or xs k d)
find_at_last p xs k d below before here =
    let split : xs ≡ take k xs ++ (get_or xs k d ∷ drop (k + 1) xs) = sym (take-append-drop k xs) ∙ ap (λ t. take k xs ++ t) (drop_more xs k d below) in
    ap (find p) split ∙ find-append p (take k xs) (get_or xs k d ∷ drop (k + 1) xs) ∙ rw (before, here) refl

-- the signature of a replica
abbrev pub by : ℕ → Endorsement → Bool
by s e = nat_eq e.replica s

false_from : (b : Bool) → (b ≡ true → ⊥) → b ≡ false
false_from true h = absurd (h refl)
false_from false h = refl

abbrev replica_of : SignedVote → ℕ
replica_of v = v.replica

pub found_vote : (c d : Certificate) (s k : ℕ) (v : SignedVote) → c ≡ d → k < length c.entries → find (by s) (take k c.entries) ≡ None
    → v ≡ vote_of c (nth_endorsement c k) → v.replica ≡ s → Some v ≡ option_map (vote_of d) (find (by s) d.entries)
found_vote c d s k v same below before is of =
    let here : by s (nth_endorsement c k) ≡ true = eq-eqb _ _ (sym (ap replica_of is) ∙ of) in
    let found = find_at_last (by s) c.entries k (record { replica = 0; key = 0; signature = [] }) below before here in
    ap (λ (x : SignedVote). Some x) is ∙ sym (ap (option_map (vote_of c)) found)
    ∙ ap (λ (x : Certificate). option_map (vote_of x) (find (by s) x.entries)) same

pub passed_vote : (c : Certificate) (s k : ℕ) (v : SignedVote) → k < length c.entries → find (by s) (take k c.entries) ≡ None
    → v ≡ vote_of c (nth_endorsement c k) → v.replica ≢ s → find (by s) (take (k + 1) c.entries) ≡ None
passed_vote c s k v below before is other =
    let here : by s (nth_endorsement c k) ≡ false = false_from _ (λ t. other (ap replica_of is ∙ eqb-true _ _ t)) in
    find_more (by s) c.entries k (record { replica = 0; key = 0; signature = [] }) below before here
