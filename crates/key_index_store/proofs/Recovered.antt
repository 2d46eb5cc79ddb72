-- What recovery finds.
use Rattle.std.proofs.Common.{◌≡◌, ◌≢◌, ℕ, ◌≤◌, List, ◌∷◌, ◌++◌, length, take, Option, Some, None, IfSome, refl, sym, ◌∙◌, ap, subst, arith, append_assoc}
use Rattle.std.proofs.lemmas.List.{take_at}
use Rattle.std.specs.List.{flat_map}
use Rattle.stable_log.specs.Crash.{NoNew, Only}
use Rattle.stable_log.specs.Image.{magic, payload_text, StandsFor}
use Rattle.stable_log.specs.Refusals.{IsDamaged, IsJournalRecoverRefusal as IsJournalRefusal}
use Rattle.stable_log.specs.declared.error.JournalError.{JournalError}
use Rattle.stable_log.specs.declared.error.JournalError.TheVariants as journal
use Rattle.key_index_store.specs.Boundary.{IsKeyCount, reservations, IsBoundedBy, IsStore, LeavesBoundary, taken_by}
use Rattle.key_index_store.specs.Indices.{limit_of}
use Rattle.key_index_store.specs.Refusals.{HasNoBoundary, index_error, IsReservationsRefusal, IsIndexRecoverRefusal}
use Rattle.key_index_store.specs.declared.error.IndexError.{IndexError}
use Rattle.key_index_store.specs.declared.error.IndexError.TheVariants.{Memory, Device, Spent, Stopped, BadEntry}
use Rattle.key_index_store.proofs.Bounds.{some_if, if_some, bounded_at}
use Rattle.key_index_store.proofs.Reservations.{length-reservations}

-- what stands for a list begins with the head of a journal
head : (bytes : List ℕ) (list : List (List ℕ)) → StandsFor bytes list → take 8 bytes ≡ magic
head bytes list s =
    ap (λ (l : List ℕ). take 8 l) (s.split ∙ append_assoc magic (flat_map payload_text list) (s.gate ∷ s.rest))
    ∙ take_at magic (flat_map payload_text list ++ s.gate ∷ s.rest) 8 refl

some_weaker : {X : Type 0} (o : Option X) (P Q : X → Type 0) → ((x : X) → P x → Q x) → IfSome o P → IfSome o Q
some_weaker None P Q by p = tt
some_weaker (Some x) P Q by p = by x p

-- where the journal refuses, the store does
pub journal_refusal : (limit : ℕ) (told : Option (List ℕ)) (e : JournalError) → IsJournalRefusal told e → IsIndexRecoverRefusal limit told (index_error e)
journal_refusal limit told journal.Memory refused = tt
journal_refusal limit told journal.Device refused = tt
journal_refusal limit told journal.NotAJournal refused = some_weaker told (λ (bytes : List ℕ). take 8 bytes ≢ magic) (HasNoBoundary limit) (λ bytes other boundary is. other (head bytes (reservations is.count) is.stands)) refused
journal_refusal limit told journal.Damaged refused = some_weaker told IsDamaged (HasNoBoundary limit) (λ bytes damaged boundary is. damaged.1 (reservations is.count) is.stands) refused
journal_refusal limit told journal.Full refused = absurd refused
journal_refusal limit told journal.TooLong refused = absurd refused
journal_refusal limit told journal.Stopped refused = absurd refused
journal_refusal limit told journal.NoSuchEntry refused = absurd refused

-- one list stands for what the disk told
abbrev pub OneList : Option (List ℕ) → List (List ℕ) → Type 0
OneList told list = IfSome told (λ bytes. (other : List (List ℕ)) → StandsFor bytes other → other ≡ list)

-- where its entries are no reservations, the store refuses
pub read_refusal : (limit : ℕ) (told now : Option (List ℕ)) (list : List (List ℕ)) (e : IndexError) → IsReservationsRefusal limit now list e → now ≡ told → OneList told list → IsIndexRecoverRefusal limit told e
read_refusal limit told now list Memory fault same one = tt
read_refusal limit told now list Device fault same one = tt
read_refusal limit told now list BadEntry fault same one = some_if told (HasNoBoundary limit) (λ bytes is boundary b.
    if_some now (λ (x : List ℕ). (n : ℕ) → taken_by n ≤ limit → list ≢ reservations n) bytes fault (same ∙ is) b.count b.few (sym (if_some told (λ (x : List ℕ). (other : List (List ℕ)) → StandsFor x other → other ≡ list) bytes one is (reservations b.count) b.stands)))
read_refusal limit told now list Spent fault same one = absurd fault
read_refusal limit told now list Stopped fault same one = absurd fault

-- a list of n reservations stands for what the disk told, and a crash leaves nothing else
module _ (keys : ℕ) (told now : Option (List ℕ)) (list : List (List ℕ)) (n : ℕ) (same : now ≡ told) (stands : IfSome told (λ (bytes : List ℕ). StandsFor bytes list)) (listed : IfSome now (λ (x : List ℕ). list ≡ reservations n)) where
  is_reserved : (bytes : List ℕ) → told ≡ Some bytes → StandsFor bytes (reservations n)
  is_reserved bytes is = subst (λ (l : List (List ℕ)). StandsFor bytes l) (if_some now (λ (x : List ℕ). list ≡ reservations n) bytes listed (same ∙ is)) (if_some told (λ (x : List ℕ). StandsFor x list) bytes stands is)

  -- no boundary of the bytes is another
  pub not_again : OneList told list → IfSome told (λ (bytes : List ℕ). (other_limit mark : ℕ) → IsBoundedBy other_limit mark bytes → mark ≤ taken_by n)
  not_again one = some_if told (λ (bytes : List ℕ). (other_limit mark : ℕ) → IsBoundedBy other_limit mark bytes → mark ≤ taken_by n) (λ bytes is other_limit mark b.
      let boundary = b.1 in
      let count = boundary.count in
      let other : reservations count ≡ reservations n =
      if_some told (λ (x : List ℕ). (other : List (List ℕ)) → StandsFor x other → other ≡ list) bytes one is (reservations count) boundary.stands
      ∙ if_some now (λ (x : List ℕ). list ≡ reservations n) bytes listed (same ∙ is) in
      let counts : count ≡ n = sym (length-reservations count) ∙ ap length other ∙ length-reservations n in
      omega (arith, b.2, boundary.taken, counts))

  module _ (images : List ℕ → Type 0) (durable : IfSome told (λ (bytes : List ℕ). Only bytes images)) (few : taken_by n ≤ (limit_of keys)) where
    pub leaves : (later : List ℕ → Type 0) → NoNew images later → IfSome told (λ (x : List ℕ). LeavesBoundary later (limit_of keys) (taken_by n))
    leaves later no_new = some_if told (λ (x : List ℕ). LeavesBoundary later (limit_of keys) (taken_by n)) (λ bytes is image left.
        let only : image ≡ bytes = if_some told (λ (b : List ℕ). Only b images) bytes durable is image (no_new image left) in
        subst (λ (b : List ℕ). IsBoundedBy (limit_of keys) (taken_by n) b) (sym only) (bounded_at (limit_of keys) n bytes few (is_reserved bytes is)))

    pub store_read : (last : Option (List ℕ)) (later : List ℕ → Type 0) (new : List (List ℕ)) → last ≡ now → new ≡ list → length list ≡ n → IsKeyCount keys → NoNew images later → IsStore last later new keys (taken_by n) n
    store_read last later new same_bytes same_list counted keys_are no_new = record {
      within = omega arith;
      last = omega arith;
      few = few;
      keys_are = keys_are;
      counted = ap length same_list ∙ counted;
      listed = some_if last (λ (x : List ℕ). new ≡ reservations n) (λ bytes is. same_list ∙ if_some now (λ (x : List ℕ). list ≡ reservations n) bytes listed (sym same_bytes ∙ is));
      bounded = some_if last (λ (x : List ℕ). LeavesBoundary later (limit_of keys) (taken_by n)) (λ bytes is. if_some told (λ (x : List ℕ). LeavesBoundary later (limit_of keys) (taken_by n)) bytes (leaves later no_new) (sym (same_bytes ∙ same) ∙ is));
    }
