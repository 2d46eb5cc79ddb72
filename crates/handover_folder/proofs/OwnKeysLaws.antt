-- Laws of a replica's own keys.
use Rattle.std.proofs.Common.{◌≡◌, ◌<◌, ◌+◌, ℕ, zero, suc, Bool, true, false, List, [], ◌∷◌, ◌++◌, ◌&&◌, length, take, Option, Some, None, inl, inr, refl, sym, ap, subst, ◌∙◌, arith}
use Rattle.std.specs.Prelude.{IsSomeAnd}
use Rattle.std.specs.List.{All}
use Rattle.std.specs.Str.{bytes_eq}
use Rattle.std.proofs.lemmas.Bool.{cases_Bool}
use Rattle.std.proofs.lemmas.List.{length-append, take_at}
use Rattle.std.proofs.lemmas.List.Elements.{All-nil, All-push}
use Rattle.std.proofs.lemmas.Slice.Eq.{bytes_eq-Decides}
use Rattle.sha2.proofs.Facts256.{length-sha256}
use Rattle.lms_tree.specs.Keys.{IsPublicKey}
use Rattle.blocks.specs.Genesis.{chain_id_of}
use Rattle.blocks.specs.Headers.{header_id}
use Rattle.blocks.specs.Committees.{IsCommittee, key_at, keys_of, n_of}
use Rattle.blocks.proofs.CommitteeLaws.{count_here, key_here, room_below, size_of}
use Rattle.certificates.specs.declared.certificate.Endorsement.{Endorsement}
use Rattle.handover_keys.specs.Endorsements.{endorsement_text}
use Rattle.handover_keys.specs.NextKeys.{AreNextKeys, NextKeys, next_keys_text}
use Rattle.handover_keys.proofs.NextKeysLaws.{one_spelling}
use Rattle.handover_renewals.specs.Renewals.{Renewal}
use Rattle.handover_renewals.specs.Renewing.{IsGoodFor, Renews, signature_of}
use Rattle.handover_renewals.specs.Slots.{is_kept, keys_upto, same_keys, slot_keys, slot_statement}
use Rattle.handover_renewals.proofs.SlotLaws.{length-keys_upto}
use Rattle.handover_folder.specs.Histories.{IsTold}
use Rattle.handover_folder.specs.Words.{Endorsed}
use Rattle.handover_folder.proofs.HistoryLaws.{one_endorsement_is_told}
use Rattle.handover_folder.specs.OwnKeys.{AreOwn, ItsNextKeysAreTheSame, ItsSlotIsItsOwn, OneEndorsementAChain, SignedAlone, SignedAloneThrough, Words}
use Rattle.handover_folder.specs.Renewed.{Next, AreRenewed, last_of}

-- ---- one endorsement a chain

pub one_a_chain : OneEndorsementAChain
one_a_chain words chain other_chain bytes other are told too same =
    let one : chain ≡ other_chain = sym (are.named chain bytes told) ∙ same ∙ are.named other_chain other too in
    let here = are.happened chain in
    one_endorsement_is_told here.first (words chain) bytes other here.history told (subst (λ (c : List ℕ). IsTold (words c) (Endorsed other)) (sym one) too)

-- ---- slots that are kept

from_and : (a b : Bool) → (a && b) ≡ true → (a ≡ true) × (b ≡ true)
from_and true b e = (refl, e)
from_and false b e = absurd cc

kept_keys : (old new : List ℕ) (s n : ℕ) → same_keys old new s n ≡ true → keys_upto new s n ≡ keys_upto old s n
unfolding same_keys keys_upto
kept_keys old new s zero same = refl
kept_keys old new s (suc n) same =
    let parts = from_and (same_keys old new s n) (bytes_eq (key_at old s n) (key_at new s n)) same in
    let before = kept_keys old new s n parts.0 in
    let here : key_at old s n ≡ key_at new s n = (bytes_eq-Decides (key_at old s n) (key_at new s n)).0 parts.1 in
    λ i. before i ++ sym here i ∷ []

-- ---- slots that are new

-- the renewal has a good signature of the slot
record HasSigned (old new : List ℕ) (r : Renewal) (s : ℕ) : Type 0 where
  by : Endorsement
  is : signature_of r s ≡ Some by
  good : IsGoodFor old new s by

signed_by : (old new : List ℕ) (r : Renewal) (s : ℕ) (o : Option Endorsement) → signature_of r s ≡ o → IsSomeAnd o (IsGoodFor old new s) → HasSigned old new r s
signed_by old new r s None is good = absurd good
signed_by old new r s (Some e) is good = record { by = e; is = is; good = good }

has_signed : (old new : List ℕ) (r : Renewal) (s : ℕ) → Renews old new r → s < n_of old → is_kept old new s ≡ false → HasSigned old new r s
has_signed old new r s renews inside other = signed_by old new r s (signature_of r s) refl ((renews.slots.signed s inside).signed other)

-- ---- through a lineage

own_next : (old new : List ℕ) (r : Renewal) (words : Words) (s : ℕ) (begun : List (List ℕ)) → Renews old new r → s < n_of old → SignedAlone words s begun old new r
    → AreOwn words s begun (slot_keys old s) → AreOwn words s begun (slot_keys new s)
own_next old new r words s begun renews inside alone own =
    let as_many : keys_of new s ≡ keys_of old s = renews.slots.shape.counts s inside in
    elim (cases_Bool (is_kept old new s)) [
      | inl kept ↦ subst (AreOwn words s begun) (sym (ap (keys_upto new s) as_many ∙ kept_keys old new s (keys_of old s) kept)) own
      | inr other ↦
          let signed = has_signed old new r s renews inside other in
          inr (record { chain = chain_id_of old; key = signed.by.key; signature = signed.by.signature; told = alone own signed.by signed.is signed.good })
    ]

own_through : (first : List ℕ) (later : List Next) (words : Words) (s : ℕ) (begun : List (List ℕ)) → AreRenewed first later → s < n_of first → SignedAloneThrough words s begun first later
    → AreOwn words s begun (slot_keys first s) → AreOwn words s begun (slot_keys (last_of first later) s)
own_through first [] words s begun are below alone own = own
own_through first (next ∷ later) words s begun are below alone own =
    let size = are.0.renews.slots.shape.one_size.size in
    let inside : s < n_of next.file = omega (arith, size) in
    own_through next.file later words s begun are.1 inside alone.1 (own_next first next.file next.renewal words s begun are.0.renews below alone.0 own)

pub its_own : ItsSlotIsItsOwn
its_own first later words s are below alone = own_through first later words s (slot_keys first s) are below alone (inl refl)

-- ---- in two committees that renew one

all_keys : (new : List ℕ) (s n : ℕ) → ((k : ℕ) → k < n → IsPublicKey (key_at new s k)) → All IsPublicKey (keys_upto new s n)
unfolding keys_upto
all_keys new s zero is = All-nil IsPublicKey
all_keys new s (suc n) is = All-push IsPublicKey (keys_upto new s n) (key_at new s n) (all_keys new s n (λ k below. is k (omega arith))) (is n (omega arith))

chain_long : (committee : List ℕ) → length (chain_id_of committee) ≡ 32
unfolding header_id
chain_long committee = length-sha256 _

may_be_stated : (old new : List ℕ) (s : ℕ) → IsCommittee new → s < n_of new → AreNextKeys (slot_statement (chain_id_of old) new s)
may_be_stated old new s is below =
    let long = length-keys_upto new s (keys_of new s) in
    let count = count_here new s is below in
    record {
      chain = chain_long old;
      replica = let most = (size_of new is).most in omega arith;
      least = omega (arith, count.0);
      most = omega (arith, count.1, room_below new);
      public_keys = all_keys new s (keys_of new s) (λ k inside. key_here new s k is below inside);
    }

same_front : (xs ys : List ℕ) (k l : ℕ) (us vs : List ℕ) → length us ≡ length vs → endorsement_text xs k us ≡ endorsement_text ys l vs → xs ≡ ys
same_front xs ys k l us vs long same =
    let whole : length xs + suc (length us) ≡ length ys + suc (length vs) = sym (length-append xs (k ∷ us)) ∙ ap length same ∙ length-append ys (l ∷ vs) in
    let front : length xs ≡ length ys = omega (arith, whole, long) in
    sym (take_at xs (k ∷ us) (length xs) refl) ∙ ap (take (length xs)) same ∙ take_at ys (l ∷ vs) (length xs) (sym front)

abbrev keys_in : NextKeys → List (List ℕ)
keys_in v = v.keys

pub same_next : ItsNextKeysAreTheSame
same_next old new other r q words s begun are own alone alone_too is too renews renews_too inside here there =
    let one = has_signed old new r s renews inside here in
    let two = has_signed old other q s renews_too inside there in
    let size = renews.slots.shape.one_size.size in
    let size_too = renews_too.slots.shape.one_size.size in
    let journal = are.happened (chain_id_of old) in
    let texts = one_endorsement_is_told journal.first (words (chain_id_of old)) _ _ journal.history (alone own one.by one.is one.good) (alone_too own two.by two.is two.good) in
    let text = next_keys_text (slot_statement (chain_id_of old) new s) in
    let text_too = next_keys_text (slot_statement (chain_id_of old) other s) in
    let same : text ≡ text_too = same_front text text_too one.by.key two.by.key one.by.signature two.by.signature (one.good.verifies.long ∙ sym two.good.verifies.long) texts in
    let stated = may_be_stated old new s is (omega (arith, size)) in
    let stated_too = may_be_stated old other s too (omega (arith, size_too)) in
    ap keys_in (one_spelling text (slot_statement (chain_id_of old) new s) (slot_statement (chain_id_of old) other s) (record { parts = stated; text = refl }) (record { parts = stated_too; text = same }))
