-- What a committee that renews another has of it.
use Rattle.std.proofs.Common.{◌≡◌, ◌<◌, ◌+◌, ◌*◌, ◌/◌, ◌^◌, ℕ, zero, suc, Bool, true, false, List, [], ◌∷◌, ◌++◌, ◌&&◌, length, drop, get_or, Option, Some, None, inl, inr, refl, sym, ap, subst, ◌∙◌, arith}
use Rattle.std.specs.Prelude.{cond, IsSomeAnd}
use Rattle.std.specs.List.{All}
use Rattle.std.specs.Str.{bytes_eq}
use Rattle.std.proofs.lemmas.Bool.{cases_Bool, cases_lt}
use Rattle.std.proofs.lemmas.List.{get_or_append_left}
use Rattle.std.proofs.Math.Seq.{get_or-append_seam}
use Rattle.std.proofs.lemmas.List.Elements.{All-nil, All-push}
use Rattle.std.proofs.lemmas.Slice.Eq.{bytes_eq-Decides}
use Rattle.sha2.proofs.Facts256.{length-sha256}
use Rattle.base_wire.specs.Pieces.{piece}
use Rattle.lms_tree.specs.Keys.{IsPublicKey}
use Rattle.certificates.specs.declared.certificate.Endorsement.{Endorsement}
use Rattle.blocks.specs.Genesis.{chain_id_of}
use Rattle.blocks.specs.Headers.{header_id}
use Rattle.blocks.specs.Committees.{IsCommittee, key_at, key_id_at, keys_of, n_of, weight_at}
use Rattle.blocks.specs.Weights.{is_any, weight_of}
use Rattle.blocks.proofs.CommitteeLaws.{count_here, key_here, room_below, size_of}
use Rattle.handover_keys.specs.BoundIds.{IsPlace, bound_id}
use Rattle.handover_keys.specs.Endorsements.{HasBoundIds, IsEndorsementOf, IsGoodEndorsement, IsSigned, endorsement_text, signature_in, signing_key_in, statement_in}
use Rattle.handover_keys.specs.NextKeys.{AreNextKeys, NextKeys, chain_in, count_in, key_in, next_keys_text, replica_in}
use Rattle.handover_keys.specs.NextKeysReading.{IsStatement}
use Rattle.handover_keys.proofs.EndorsementLaws.{endorsement_again}
use Rattle.handover_keys.proofs.Places.{one_place}
use Rattle.handover_keys.proofs.NextKeysLaws.{again, key_of_count, length-keys_from}
use Rattle.handover_renewals.specs.Renewals.{Renewal}
use Rattle.handover_renewals.specs.RenewalLaws.{AQuorumIsTheSame, ASlotIsKeptOrSignedFor, EachSetWeighsTheSame, IsSignedFor, NewKeysHaveOnePlace}
use Rattle.handover_renewals.specs.Renewing.{IsGoodFor, Renews, signature_of}
use Rattle.handover_renewals.specs.Slots.{is_kept, keys_upto, same_keys, slot_statement}
use Rattle.handover_renewals.proofs.SlotLaws.{length-keys_upto}

abbrev chain_of : NextKeys → List ℕ
chain_of v = v.chain

abbrev replica_of : NextKeys → ℕ
replica_of v = v.replica

abbrev count_of : NextKeys → ℕ
count_of v = length v.keys

-- ---- weights

-- two lists of weights that are the same below n
same_weight : (v w : ℕ → ℕ) (passes : ℕ → Bool) (n : ℕ) → ((s : ℕ) → s < n → v s ≡ w s) → weight_of v passes n ≡ weight_of w passes n
same_weight v w passes zero same = refl
same_weight v w passes (suc n) same =
    let before = same_weight v w passes n (λ s below. same s (omega arith)) in
    let here = same n (omega arith) in
    λ i. before i + cond (passes n) (here i) 0

pub each_set : EachSetWeighsTheSame
each_set old new r is passes =
    let shape = is.slots.shape in
    ap (weight_of (weight_at new) passes) shape.one_size.size ∙ same_weight (weight_at new) (weight_at old) passes (n_of old) shape.weights

pub quorum_same : AQuorumIsTheSame
quorum_same old new r is = ap (λ (t : ℕ). 2 * t / 3 + 1) (each_set old new r is is_any)

-- ---- each slot

from_and : (a b : Bool) → (a && b) ≡ true → (a ≡ true) × (b ≡ true)
from_and true b e = (refl, e)
from_and false b e = absurd cc

-- keys that are the same
kept_keys : (old new : List ℕ) (s n : ℕ) → same_keys old new s n ≡ true → keys_upto new s n ≡ keys_upto old s n
unfolding same_keys keys_upto
kept_keys old new s zero same = refl
kept_keys old new s (suc n) same =
    let parts = from_and (same_keys old new s n) (bytes_eq (key_at old s n) (key_at new s n)) same in
    let before = kept_keys old new s n parts.0 in
    let here : key_at old s n ≡ key_at new s n = (bytes_eq-Decides (key_at old s n) (key_at new s n)).0 parts.1 in
    λ i. before i ++ sym here i ∷ []

all_keys : (new : List ℕ) (s n : ℕ) → ((k : ℕ) → k < n → IsPublicKey (key_at new s k)) → All IsPublicKey (keys_upto new s n)
unfolding keys_upto
all_keys new s zero is = All-nil IsPublicKey
all_keys new s (suc n) is = All-push IsPublicKey (keys_upto new s n) (key_at new s n) (all_keys new s n (λ k below. is k (omega arith))) (is n (omega arith))

-- key k of them
key_there : (new : List ℕ) (s n k : ℕ) (d : List ℕ) → k < n → get_or (keys_upto new s n) k d ≡ key_at new s k
unfolding keys_upto
key_there new s zero k d below = absurd (omega arith)
key_there new s (suc n) k d below =
    let long = length-keys_upto new s n in
    elim (cases_lt k n) [
      | inl inside ↦ get_or_append_left (keys_upto new s n) (key_at new s n ∷ []) d k (omega arith) ∙ key_there new s n k d inside
      | inr past ↦
          let last : n ≡ k = omega arith in
          ap (λ (i : ℕ). get_or (keys_upto new s n ++ key_at new s n ∷ []) i d) (omega arith) ∙ get_or-append_seam (keys_upto new s n) (key_at new s n) [] d ∙ ap (key_at new s) last
    ]

chain_long : (committee : List ℕ) → length (chain_id_of committee) ≡ 32
unfolding header_id
chain_long committee = length-sha256 _

-- the keys of a slot of a committee may be stated
may_be_stated : (old new : List ℕ) (s : ℕ) → IsCommittee new → s < n_of new → AreNextKeys (slot_statement (chain_id_of old) new s)
may_be_stated old new s is below =
    let long = length-keys_upto new s (keys_of new s) in
    let count = count_here new s is below in
    record {
      chain = chain_long old;
      replica = let most = (size_of new is).most in omega arith;
      least = omega (arith, count.0);
      most = omega (arith, count.1, room_below new);
      public_keys = all_keys new s (keys_of new s) (λ k inside. key_here new s k is below inside);
    }

-- the parts of a good endorsement
record HasGoodParts (old statement : List ℕ) (key : ℕ) (signature : List ℕ) : Type 0 where
  stated : IsStatement statement
  chain : chain_in statement ≡ chain_id_of old
  known : replica_in statement < n_of old
  count : count_in statement ≡ keys_of old (replica_in statement)
  bound : HasBoundIds statement
  key_is : key < keys_of old (replica_in statement)
  signed : IsSigned old (replica_in statement) key statement signature

good_of_parts : (old bytes : List ℕ) → HasGoodParts old (statement_in bytes) (signing_key_in bytes) (signature_in bytes) → IsGoodEndorsement old bytes
good_of_parts old bytes p = record { statement = p.stated; chain = p.chain; known = p.known; count = p.count; bound = p.bound; key = p.key_is; signed = p.signed }

good_from : (old bytes statement : List ℕ) (key : ℕ) (signature : List ℕ)
    → (statement_in bytes ≡ statement) × (signing_key_in bytes ≡ key) × (signature_in bytes ≡ signature) → HasGoodParts old statement key signature → IsGoodEndorsement old bytes
good_from old bytes statement key signature same parts =
    good_of_parts old bytes
    (subst (λ (t : List ℕ). HasGoodParts old t (signing_key_in bytes) (signature_in bytes)) (sym same.0) (
    subst (λ (k : ℕ). HasGoodParts old statement k (signature_in bytes)) (sym same.1) (
    subst (λ (t : List ℕ). HasGoodParts old statement key t) (sym same.2) parts)))

-- what a replica signed for its slot
parts_of : (old new : List ℕ) (r : Renewal) (s : ℕ) (e : Endorsement) → IsCommittee new → Renews old new r → s < n_of new → is_kept old new s ≡ false → IsGoodFor old new s e
    → HasGoodParts old (next_keys_text (slot_statement (chain_id_of old) new s)) e.key e.signature
parts_of old new r s e is renews below other good =
    let shape = renews.slots.shape in
    let v = slot_statement (chain_id_of old) new s in
    let text = next_keys_text v in
    let size : n_of new ≡ n_of old = shape.one_size.size in
    let inside : s < n_of old = omega (arith, size) in
    let read = again text v (record { parts = may_be_stated old new s is below; text = refl }) in
    let chain : chain_in text ≡ chain_id_of old = ap chain_of read.1 in
    let replica : replica_in text ≡ s = ap replica_of read.1 in
    let as_many : keys_of new s ≡ keys_of old s = shape.counts s inside in
    let count : count_in text ≡ keys_of old s =
    sym (length-keys_from (count_in text) (drop 39 text)) ∙ ap count_of read.1 ∙ length-keys_upto new s (keys_of new s) ∙ as_many in
    let key_is : (k : ℕ) → k < count_in text → key_in text k ≡ key_at new s k =
    λ k has. sym (key_of_count text k [] has) ∙ ap (λ (w : NextKeys). get_or w.keys k []) read.1 ∙ key_there new s (keys_of new s) k [] (omega (arith, count, as_many, has)) in
    let bound = (renews.slots.ids s inside).bound other in
    record {
      stated = read.0;
      chain = chain;
      known = omega (arith, replica);
      count = count ∙ sym (ap (keys_of old) replica);
      bound = record {
        each =
            λ k has. ap (λ (t : List ℕ). piece 16 t 8) (key_is k has) ∙ bound k (omega (arith, count, has))
            ∙ (λ i. bound_id (sym chain i) (sym replica i) k);
      };
      key_is = let key = good.key in omega (arith, ap (keys_of old) replica);
      signed = subst (λ (t : ℕ). IsSigned old t e.key text e.signature) (sym replica) good.verifies;
    }

signed_for : (old new : List ℕ) (r : Renewal) (s : ℕ) (o : Option Endorsement) → IsCommittee old → IsCommittee new → Renews old new r → s < n_of new → is_kept old new s ≡ false
    → IsSomeAnd o (IsGoodFor old new s) → IsSignedFor old new s
signed_for old new r s None was is renews below other good = absurd good
signed_for old new r s (Some e) was is renews below other good =
    let parts = parts_of old new r s e is renews below other good in
    let text = next_keys_text (slot_statement (chain_id_of old) new s) in
    let inside : s < n_of old = let size = renews.slots.shape.one_size.size in omega arith in
    let few = count_here old s was inside in
    let key = good.key in
    let number : e.key < 2 ^ 8 = omega (arith, few.1, room_below old) in
    let written : IsEndorsementOf (endorsement_text text e.key e.signature) text e.key e.signature =
    record { stated = parts.stated; number = number; long = good.verifies.long; text = refl } in
    record {
      key = e.key;
      signature = e.signature;
      good = good_from old (endorsement_text text e.key e.signature) text e.key e.signature (endorsement_again (endorsement_text text e.key e.signature) text e.key e.signature written) parts;
    }

pub new_keys : NewKeysHaveOnePlace
new_keys old new r was renews s k inside other has chain replica key place apart is =
    let bound = (renews.slots.ids s inside).bound other k has in
    let most = (size_of old was).most in
    let few = count_here old s was inside in
    let here : IsPlace (chain_id_of old) s k = record { long = chain_long old; two_bytes = omega arith; one_byte = omega (arith, few.1, room_below old) } in
    one_place (key_id_at new s k) (chain_id_of old) chain s replica k key here place apart bound is

pub each_slot : ASlotIsKeptOrSignedFor
each_slot old new r was is renews s below =
    let size = renews.slots.shape.one_size.size in
    let inside : s < n_of old = omega arith in
    let as_many : keys_of new s ≡ keys_of old s = renews.slots.shape.counts s inside in
    elim (cases_Bool (is_kept old new s)) [
      | inl kept ↦ inl (ap (keys_upto new s) as_many ∙ kept_keys old new s (keys_of old s) kept)
      | inr other ↦ inr (signed_for old new r s (signature_of r s) was is renews below other ((renews.slots.signed s inside).signed other))
    ]
