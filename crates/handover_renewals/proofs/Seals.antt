-- The signatures in the renewal.
use Rattle.std.proofs.Common.{◌≡◌, ◌≢◌, ℕ, zero, suc, ◌+◌, ◌-◌, ◌<◌, ◌≤◌, ◌^◌, add-one, true, false, nat_eq, List, [], ◌∷◌, ◌++◌, length, Option, Some, None, Result, Ok, Err, inl, inr, refl, sym, ap, subst, ◌∙◌, arith}
use Rattle.std.specs.Prelude.{IfErr, IfOk, cond, is_some, option_map}
use Rattle.std.specs.Option.{option_or, option_to_list}
use Rattle.std.specs.List.{All, AllPairs, find, flat_map}
use Rattle.std.proofs.lemmas.Bool.{cases_Bool, cases_lt, eq-eqb, eqb-true}
use Rattle.std.proofs.lemmas.Grind.{flat_map-append}
use Rattle.std.proofs.lemmas.List.{append-nil, append_assoc, length-append}
use Rattle.std.proofs.lemmas.List.Elements.{All-append, All-cons, All-head, All-nil, All-weaker}
use Rattle.std.proofs.lemmas.List.Folds.{find-append}
use Rattle.std.proofs.lemmas.List.Quantifiers.{all_pairs_push}
use Rattle.sha2.proofs.Facts256.{length-sha256}
use Rattle.base_wire.specs.Pieces.{AreBytes}
use Rattle.blocks.specs.Committees.{IsCommittee, n_of}
use Rattle.blocks.specs.Genesis.{chain_id_of}
use Rattle.blocks.specs.Headers.{header_id}
use Rattle.blocks.proofs.CommitteeLaws.{size_of}
use Rattle.certificates.specs.Certificates.{IsBefore, IsEndorsement, endorsement_text}
use Rattle.certificates.specs.declared.certificate.Endorsement.{Endorsement}
use Rattle.handover_keys.specs.Endorsements.{IsGoodEndorsement}
use Rattle.handover_renewals.specs.Renewals.{IsRenewal, Renewal}
use Rattle.handover_renewals.specs.declared.format.RenewalFormRefusal.{RenewalFormRefusal}
use Rattle.handover_renewals.specs.declared.format.RenewalFormRefusal.TheVariants.{Memory, Short, Magic, View, Length, Order, Count}
use Rattle.handover_renewals.proofs.SlotLaws.{by}
use Rattle.handover_renewals.specs.Endorsed.{AreGood, endorsement_of, replica_of}
use Rattle.handover_renewals.specs.Composing.{renewal_to, seal_of, seals_upto}
use Rattle.handover_renewals.proofs.Endorsing.{found_bytes, found_good, length-signature_in}

-- what the last of so many replicas adds
abbrev pub last_seal : ℕ → Option (List ℕ) → List Endorsement
last_seal n o = option_to_list (option_map (seal_of n) o)

-- ---- of one replica

not_of : (n s : ℕ) (o : Option (List ℕ)) → n ≢ s → find (by s) (last_seal n o) ≡ None
not_of n s None other = refl
not_of n s (Some e) other =
    elim (cases_Bool (nat_eq n s)) [
      | inl same ↦ absurd (other (eqb-true n s same))
      | inr differ ↦ rw differ refl
    ]

of_it : (s : ℕ) (o : Option (List ℕ)) → find (by s) (last_seal s o) ≡ option_map (seal_of s) o
of_it s None = refl
of_it s (Some e) = rw (eq-eqb s s refl) refl

none_yet : (es : List (List ℕ)) (n s : ℕ) → n ≤ s → find (by s) (seals_upto es n) ≡ None
unfolding seals_upto
none_yet es zero s past = refl
none_yet es (suc n) s past =
    find-append (by s) (seals_upto es n) (last_seal n (endorsement_of es n))
    ∙ rw (none_yet es n s (omega arith), not_of n s (endorsement_of es n) (λ same. omega (arith, same))) refl

or_none : (o p : Option Endorsement) → p ≡ None → option_or o p ≡ o
or_none None p is = is
or_none (Some e) p is = refl

-- the one of a replica is that of its endorsement
pub seal_found : (es : List (List ℕ)) (n s : ℕ) → s < n → find (by s) (seals_upto es n) ≡ option_map (seal_of s) (endorsement_of es s)
unfolding seals_upto
seal_found es zero s below = absurd (omega arith)
seal_found es (suc n) s below =
    elim (cases_lt s n) [
      | inl inside ↦
          find-append (by s) (seals_upto es n) (last_seal n (endorsement_of es n))
          ∙ or_none (find (by s) (seals_upto es n)) (find (by s) (last_seal n (endorsement_of es n))) (not_of n s (endorsement_of es n) (λ same. omega (arith, same)))
          ∙ seal_found es n s inside
      | inr past ↦
          let here : s ≡ n = omega arith in
          find-append (by s) (seals_upto es n) (last_seal n (endorsement_of es n))
          ∙ rw (none_yet es n s (omega arith)) (subst (λ (t : ℕ). find (by s) (last_seal t (endorsement_of es t)) ≡ option_map (seal_of s) (endorsement_of es s)) here (of_it s (endorsement_of es s)))
    ]

-- ---- how many there are

length-last_seal : (n : ℕ) (o : Option (List ℕ)) → length (last_seal n o) ≤ 1
length-last_seal n None = omega arith
length-last_seal n (Some e) = omega arith

pub length-seals_upto : (es : List (List ℕ)) (n : ℕ) → length (seals_upto es n) ≤ n
unfolding seals_upto
length-seals_upto es zero = omega arith
length-seals_upto es (suc n) =
    omega (arith, length-append (seals_upto es n) (last_seal n (endorsement_of es n)), length-seals_upto es n, length-last_seal n (endorsement_of es n))

-- one at least, if there is an endorsement of one of the replicas
pub some_seals : (es : List (List ℕ)) (n s : ℕ) (e : List ℕ) → s < n → endorsement_of es s ≡ Some e → 1 ≤ length (seals_upto es n)
unfolding seals_upto
some_seals es zero s e below is = absurd (omega arith)
some_seals es (suc n) s e below is =
    let all = length-append (seals_upto es n) (last_seal n (endorsement_of es n)) in
    elim (cases_lt s n) [
      | inl inside ↦ omega (arith, all, some_seals es n s e inside is)
      | inr past ↦
          let here : s ≡ n = omega arith in
          let one : length (last_seal n (endorsement_of es n)) ≡ 1 = ap (λ o. length (last_seal n o)) (ap (endorsement_of es) (sym here) ∙ is) in
          omega (arith, all, one)
    ]

-- the first endorsement is one of some replica
first_found : (e : List ℕ) (es : List (List ℕ)) → endorsement_of (e ∷ es) (replica_of e) ≡ Some e
unfolding endorsement_of
first_found e es = rw (eq-eqb (replica_of e) (replica_of e) refl) refl

pub some_if_any : (old : List ℕ) (es : List (List ℕ)) → AreGood old es → 1 ≤ length es → 1 ≤ length (seals_upto es (n_of old))
some_if_any old [] good any = absurd (omega arith)
some_if_any old (e ∷ es) good any =
    some_seals (e ∷ es) (n_of old) (replica_of e) e (All-head (IsGoodEndorsement old) e es good).known (first_found e es)

-- ---- they rise

below_last : (n : ℕ) (o : Option (List ℕ)) → All (λ x. x.replica < n + 1) (last_seal n o)
below_last n None = All-nil (λ x. x.replica < n + 1)
below_last n (Some e) = All-cons (λ x. x.replica < n + 1) (seal_of n e) [] (omega arith) (All-nil (λ x. x.replica < n + 1))

replicas_below : (es : List (List ℕ)) (n : ℕ) → All (λ x. x.replica < n) (seals_upto es n)
unfolding seals_upto
replicas_below es zero = All-nil (λ x. x.replica < 0)
replicas_below es (suc n) =
    All-weaker (λ x. x.replica < n + 1) (λ x. x.replica < suc n) (λ x below. omega arith) (seals_upto es n ++ last_seal n (endorsement_of es n)) (
    All-append (λ x. x.replica < n + 1) (seals_upto es n) (last_seal n (endorsement_of es n))
    (All-weaker (λ x. x.replica < n) (λ x. x.replica < n + 1) (λ x below. omega arith) (seals_upto es n) (replicas_below es n)) (below_last n (endorsement_of es n)))

rises : (xs : List Endorsement) (n : ℕ) (o : Option (List ℕ)) → All (λ x. x.replica < n) xs → AllPairs IsBefore xs → AllPairs IsBefore (xs ++ last_seal n o)
rises xs n None below rising = subst (AllPairs IsBefore) (sym (append-nil xs)) rising
rises xs n (Some e) below rising = all_pairs_push IsBefore xs (seal_of n e) rising (λ k d inside. below k d inside)

pub seals_rise : (es : List (List ℕ)) (n : ℕ) → AllPairs IsBefore (seals_upto es n)
unfolding seals_upto
seals_rise es zero = λ i j d order below. absurd (omega arith)
seals_rise es (suc n) = rises (seals_upto es n) n (endorsement_of es n) (replicas_below es n) (seals_rise es n)

-- ---- each has bytes

seal_fits : (old : List ℕ) (es : List (List ℕ)) (n : ℕ) (e : List ℕ) → AreGood old es → All AreBytes es → n < 2 ^ 16 → endorsement_of es n ≡ Some e → IsEndorsement (seal_of n e)
seal_fits old es n e good fit below is = record {
  replica = below;
  key = found_bytes es n e fit is (length e - 1453);
  signature = length-signature_in old n e (found_good old es n e good is);
}

last_fits : (n : ℕ) (o : Option (List ℕ)) → ((e : List ℕ) → o ≡ Some e → IsEndorsement (seal_of n e)) → All IsEndorsement (last_seal n o)
last_fits n None each = All-nil IsEndorsement
last_fits n (Some e) each = All-cons IsEndorsement (seal_of n e) [] (each e refl) (All-nil IsEndorsement)

pub seals_fit : (old : List ℕ) (es : List (List ℕ)) (n : ℕ) → AreGood old es → All AreBytes es → n ≤ 2 ^ 16 → All IsEndorsement (seals_upto es n)
unfolding seals_upto
seals_fit old es zero good fit most = All-nil IsEndorsement
seals_fit old es (suc n) good fit most =
    All-append IsEndorsement (seals_upto es n) (last_seal n (endorsement_of es n)) (seals_fit old es n good fit (omega arith))
    (last_fits n (endorsement_of es n) (λ e is. seal_fits old es n e good fit (omega arith) is))

-- ---- they make a renewal

chain_long : (committee : List ℕ) → length (chain_id_of committee) ≡ 32
unfolding header_id
chain_long committee = length-sha256 _

pub renewal_is : (old file : List ℕ) (es : List (List ℕ)) → IsCommittee old → AreGood old es → All AreBytes es → 1 ≤ length es → IsRenewal (renewal_to old file es)
renewal_is old file es is good fit any =
    let most = (size_of old is).most in
    let some = some_if_any old es good any in
    record {
      chain = chain_long old;
      view = refl;
      certificate = record {
        view = omega arith;
        id = length-sha256 file;
        each = seals_fit old es (n_of old) good fit (omega arith);
        rising = seals_rise es (n_of old);
        most = omega (arith, length-seals_upto es (n_of old));
        none = (λ zero_long. absurd (omega arith), λ zero_view. absurd (omega (arith, zero_view)));
      };
    }

-- ---- as loops put them

pub count_more : (es : List (List ℕ)) (n : ℕ) → length (seals_upto es (n + 1)) ≡ length (seals_upto es n) + length (last_seal n (endorsement_of es n))
unfolding seals_upto
count_more es n = rw add-one (length-append (seals_upto es n) (last_seal n (endorsement_of es n)))

pub text_more : (es : List (List ℕ)) (n : ℕ)
    → flat_map endorsement_text (seals_upto es (n + 1)) ≡ flat_map endorsement_text (seals_upto es n) ++ flat_map endorsement_text (last_seal n (endorsement_of es n))
unfolding seals_upto
text_more es n = rw add-one (flat_map-append endorsement_text (seals_upto es n) (last_seal n (endorsement_of es n)))

count_of_seal : (n : ℕ) (o : Option (List ℕ)) → length (last_seal n o) ≡ cond (is_some o) 1 0
count_of_seal n None = refl
count_of_seal n (Some e) = refl

pub counted_one : (es : List (List ℕ)) (n count : ℕ) (o : Option (List ℕ)) → o ≡ endorsement_of es n → is_some o ≡ true → count ≡ length (seals_upto es n)
    → count + 1 ≡ length (seals_upto es (n + 1))
counted_one es n count o is some before =
    let last : length (last_seal n (endorsement_of es n)) ≡ 1 =
    ap (λ (p : Option (List ℕ)). length (last_seal n p)) (sym is) ∙ count_of_seal n o ∙ rw some refl in
    omega (arith, count_more es n, last)

pub counted_none : (es : List (List ℕ)) (n count : ℕ) (o : Option (List ℕ)) → o ≡ endorsement_of es n → is_some o ≡ false → count ≡ length (seals_upto es n)
    → count ≡ length (seals_upto es (n + 1))
counted_none es n count o is none before =
    let last : length (last_seal n (endorsement_of es n)) ≡ 0 =
    ap (λ (p : Option (List ℕ)). length (last_seal n p)) (sym is) ∙ count_of_seal n o ∙ rw none refl in
    omega (arith, count_more es n, last)

pub put_none : (es : List (List ℕ)) (text : List ℕ) → text ≡ text ++ flat_map endorsement_text (seals_upto es 0)
unfolding seals_upto
put_none es text = sym (append-nil text)

pub put_one : (es : List (List ℕ)) (n : ℕ) (before text new : List ℕ) (e : List ℕ) → Some e ≡ endorsement_of es n
    → text ≡ before ++ flat_map endorsement_text (seals_upto es n) → new ≡ text ++ endorsement_text (seal_of n e)
    → new ≡ before ++ flat_map endorsement_text (seals_upto es (n + 1))
put_one es n before text new e is so_far put =
    let done = flat_map endorsement_text (seals_upto es n) in
    let last : endorsement_text (seal_of n e) ≡ flat_map endorsement_text (last_seal n (endorsement_of es n)) =
    sym (append-nil (endorsement_text (seal_of n e))) ∙ ap (λ (o : Option (List ℕ)). flat_map endorsement_text (last_seal n o)) is in
    put ∙ (λ i. so_far i ++ last i)
    ∙ append_assoc before done (flat_map endorsement_text (last_seal n (endorsement_of es n)))
    ∙ ap (λ (t : List ℕ). before ++ t) (sym (text_more es n))

pub put_no_more : (es : List (List ℕ)) (n : ℕ) (before text : List ℕ) → endorsement_of es n ≡ None
    → text ≡ before ++ flat_map endorsement_text (seals_upto es n) → text ≡ before ++ flat_map endorsement_text (seals_upto es (n + 1))
put_no_more es n before text none so_far =
    let done = flat_map endorsement_text (seals_upto es n) in
    let last : flat_map endorsement_text (last_seal n (endorsement_of es n)) ≡ [] =
    ap (λ (o : Option (List ℕ)). flat_map endorsement_text (last_seal n o)) none in
    so_far ∙ ap (λ (t : List ℕ). before ++ t) (sym (text_more es n ∙ ap (λ (t : List ℕ). done ++ t) last ∙ append-nil done))

-- ---- reading the bytes again

answer_is : (r : Result Renewal RenewalFormRefusal) (to : Renewal) → (r ≢ Err Memory → r ≡ Ok to) → IfOk r (λ x. x ≡ to) × IfErr r (λ e. e ≡ Memory)
answer_is (Ok x) to only = (let same = only (λ m. cc) in cc, tt)
answer_is (Err Memory) to only = (tt, refl)
answer_is (Err Short) to only = let same = only (λ m. cc) in absurd cc
answer_is (Err Magic) to only = let same = only (λ m. cc) in absurd cc
answer_is (Err View) to only = let same = only (λ m. cc) in absurd cc
answer_is (Err Length) to only = let same = only (λ m. cc) in absurd cc
answer_is (Err Order) to only = let same = only (λ m. cc) in absurd cc
answer_is (Err Count) to only = let same = only (λ m. cc) in absurd cc

pub read_ok : (r : Result Renewal RenewalFormRefusal) (to : Renewal) → (r ≢ Err Memory → r ≡ Ok to) → IfOk r (λ x. x ≡ to)
read_ok r to only = (answer_is r to only).0

pub read_err : (r : Result Renewal RenewalFormRefusal) (to : Renewal) → (r ≢ Err Memory → r ≡ Ok to) → IfErr r (λ e. e ≡ Memory)
read_err r to only = (answer_is r to only).1

pub no_seals : (es : List (List ℕ)) → length (seals_upto es 0) ≡ 0
unfolding seals_upto
no_seals es = refl
