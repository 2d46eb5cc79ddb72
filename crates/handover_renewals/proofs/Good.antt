-- The composed file is renewed well: what is endorsed passes each test of slots.
use Rattle.std.proofs.Common.{◌≡◌, ℕ, zero, suc, ◌<◌, Bool, true, false, ◌&&◌, List, [], ◌∷◌, length, Option, Some, None, inl, inr, refl, sym, ap, subst, ◌∙◌, arith}
use Rattle.std.specs.Prelude.{IsSomeAnd, option_map}
use Rattle.std.specs.List.{All}
use Rattle.std.proofs.lemmas.Bool.{cases_lt}
use Rattle.std.proofs.lemmas.Slice.Eq.{bytes_eq-Decides}
use Rattle.base_wire.specs.Pieces.{AreBytes, piece}
use Rattle.blocks.specs.Committees.{IsCommittee, key_at, keys_of, n_of, weight_at}
use Rattle.blocks.specs.Genesis.{chain_id_of}
use Rattle.blocks.specs.Weights.{quorum_of, weight_of}
use Rattle.certificates.specs.declared.certificate.Endorsement.{Endorsement}
use Rattle.handover_keys.specs.BoundIds.{bound_id}
use Rattle.handover_keys.specs.Endorsements.{IsSigned, signature_in, signing_key_in, statement_in}
use Rattle.handover_keys.specs.NextKeys.{next_keys_in, next_keys_text}
use Rattle.handover_renewals.specs.Renewals.{Renewal}
use Rattle.handover_renewals.specs.Renewing.{AreBound, HaveGoodSlots, IsGoodFor, VerifiesUnder}
use Rattle.handover_renewals.specs.RenewalRefusals.{IsRenewalRefusal}
use Rattle.handover_renewals.specs.Slots.{is_kept, is_new, new_weight, same_keys, slot_keys, slot_statement}
use Rattle.handover_renewals.specs.declared.judging.RenewalRefusal.{RenewalRefusal}
use Rattle.handover_renewals.proofs.Refused.{refused}
use Rattle.handover_renewals.specs.Endorsed.{AreGood, endorsement_of}
use Rattle.handover_renewals.specs.Composing.{composed_file, next_slot_keys, renewal_to, seal_of}
use Rattle.handover_renewals.specs.Making.{IsComposed}
use Rattle.handover_renewals.proofs.Endorsing.{IsEndorsementOf, count_stated, found_bytes, found_good, statement_is}
use Rattle.handover_renewals.proofs.Composed.{IsFor, composed_like, composed_none, key_composed, next_key, same_count, same_magic, same_n, same_weight, slot_composed}
use Rattle.handover_renewals.proofs.Seals.{seal_found}

-- ---- slots that are kept

both : (a b : Bool) → a ≡ true → b ≡ true → (a && b) ≡ true
both a b e f = rw (e, f) refl

-- keys that are the same, place by place
pub kept_if_same : (old new : List ℕ) (s n : ℕ) → ((k : ℕ) → k < n → key_at new s k ≡ key_at old s k) → same_keys old new s n ≡ true
unfolding same_keys
kept_if_same old new s zero same = refl
kept_if_same old new s (suc n) same =
    both _ _ (kept_if_same old new s n (λ k below. same k (omega arith)))
    ((bytes_eq-Decides (key_at old s n) (key_at new s n)).1 (sym (same n (omega arith))))

-- a slot that is not kept was endorsed
pub endorsed_if_new : (old new : List ℕ) (s : ℕ) (o : Option (List ℕ)) → ((k : ℕ) → k < keys_of old s → key_at new s k ≡ next_key old s k o) → is_kept old new s ≡ false
    → IsSomeAnd o (λ e. o ≡ Some e)
endorsed_if_new old new s None each other = let kept = kept_if_same old new s (keys_of old s) each in absurd cc
endorsed_if_new old new s (Some e) each other = refl

-- ---- ids

bound_by : (old new : List ℕ) (s : ℕ) (o : Option (List ℕ)) → IsFor old s o → ((k : ℕ) → k < keys_of old s → key_at new s k ≡ next_key old s k o)
    → IsSomeAnd o (λ e. o ≡ Some e) → AreBound old new s (keys_of old s)
bound_by old new s None good each some = absurd some
bound_by old new s (Some e) good each some =
    let is = good e refl in
    λ k has.
    let count = count_stated old s e is in
    ap (λ (t : List ℕ). piece 16 t 8) (each k has)
    ∙ is.good.bound.each k (omega arith)
    ∙ (λ i. bound_id (is.good.chain i) (is.replica i) k)

-- ---- signatures

-- the statement that was signed is that of the slot's next keys
stated_slot : (old new : List ℕ) (s : ℕ) (e : List ℕ) → AreBytes e → IsEndorsementOf old s e → slot_keys new s ≡ (next_keys_in (statement_in e)).keys
    → statement_in e ≡ next_keys_text (slot_statement (chain_id_of old) new s)
stated_slot old new s e fit is keys =
    statement_is old s e fit is ∙ (λ i. next_keys_text (record { chain = is.good.chain i; replica = is.replica i; keys = sym keys i }))

verifies_for : (old new : List ℕ) (s : ℕ) (e : List ℕ) → AreBytes e → IsEndorsementOf old s e → slot_keys new s ≡ (next_keys_in (statement_in e)).keys
    → VerifiesUnder old new s (signing_key_in e) (signature_in e)
verifies_for old new s e fit is keys =
    let text = stated_slot old new s e fit is keys in
    subst (λ (t : List ℕ). IsSigned old s (signing_key_in e) t (signature_in e)) text (
    subst (λ (t : ℕ). IsSigned old t (signing_key_in e) (statement_in e) (signature_in e)) is.replica is.good.signed)

good_by : (old new : List ℕ) (s : ℕ) (o : Option (List ℕ)) → IsFor old s o → ((e : List ℕ) → o ≡ Some e → AreBytes e) → slot_keys new s ≡ next_slot_keys old s o
    → IsSomeAnd o (λ e. o ≡ Some e) → IsSomeAnd (option_map (seal_of s) o) (IsGoodFor old new s)
good_by old new s None good fit keys some = absurd some
good_by old new s (Some e) good fit keys some =
    let is = good e refl in
    record {
      key = let key = is.good.key in omega (arith, ap (keys_of old) is.replica);
      verifies = verifies_for old new s e (fit e refl) is keys;
    }

-- ---- all tests but the last

pub good_slots : (old : List ℕ) (es : List (List ℕ)) → IsCommittee old → AreGood old es → All AreBytes es
    → HaveGoodSlots old (composed_file old es) (renewal_to old (composed_file old es) es)
good_slots old es is good fit =
    let new = composed_file old es in
    let like = composed_like old es is good in
    let given : (s : ℕ) → IsFor old s (endorsement_of es s) = λ s e found. found_good old es s e good found in
    let keys : (s : ℕ) → s < n_of old → (k : ℕ) → k < keys_of old s → key_at new s k ≡ next_key old s k (endorsement_of es s) =
    λ s below k has. key_composed old es s k is good below has in
    record {
      shape = record {
        one_size = record { between = record { chain = refl; file = refl }; format = same_magic old new is like; size = same_n old new is like };
        weights = λ s below. same_weight old new s is like below;
        counts = λ s below. same_count old new s is like below;
      };
      ids =
          λ s below. record { bound = λ other. bound_by old new s (endorsement_of es s) (given s) (keys s below) (endorsed_if_new old new s (endorsement_of es s) (keys s below) other) };
      signed =
          λ s below.
          record {
            signed =
                λ other.
                subst (λ (o : Option Endorsement). IsSomeAnd o (IsGoodFor old new s)) (sym (seal_found es (n_of old) s below)) (
                good_by old new s (endorsement_of es s) (given s) (λ e found. found_bytes es s e fit found) (slot_composed old es s is good below)
                (endorsed_if_new old new s (endorsement_of es s) (keys s below) other));
          };
    }

-- so a refusal says that the new slots weigh too little
pub too_few : (refusal : RenewalRefusal) (old new : List ℕ) (r : Renewal) → HaveGoodSlots old new r → IsRenewalRefusal refusal old new r → new_weight old new < quorum_of old
too_few refusal old new r good why =
    elim (cases_lt (new_weight old new) (quorum_of old)) [
      | inl few ↦ few
      | inr enough ↦ absurd (refused refusal old new r why (record { slots = good; enough = enough }))
    ]

-- ---- of no endorsements

nothing_new : (old : List ℕ) (n : ℕ) → weight_of (weight_at old) (is_new old old) n ≡ 0
nothing_new old zero = refl
nothing_new old (suc n) =
    let kept : is_kept old old n ≡ true = kept_if_same old old n (keys_of old n) (λ k below. refl) in
    rw kept (omega (arith, nothing_new old n))

pub too_few_of_none : (old : List ℕ) (es : List (List ℕ)) → length es ≡ 0 → new_weight old (composed_file old es) < quorum_of old
too_few_of_none old [] none =
    let weight : new_weight old (composed_file old []) ≡ 0 = ap (new_weight old) (composed_none old (n_of old)) ∙ nothing_new old (n_of old) in
    omega arith
too_few_of_none old (e ∷ es) none = absurd (omega arith)

-- ---- of a file that was composed

pub good_made : (old : List ℕ) (es : List (List ℕ)) (file new : List ℕ) (r : Renewal) → IsComposed old es file → new ≡ file → r ≡ renewal_to old new es → HaveGoodSlots old new r
good_made old es file new r is read made =
    subst (HaveGoodSlots old new) (sym made) (
    subst (λ (f : List ℕ). HaveGoodSlots old f (renewal_to old f es)) (sym (read ∙ is.file_is)) (good_slots old es is.was is.passed.good is.bytes))
