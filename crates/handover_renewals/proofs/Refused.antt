-- What is refused does not renew.
use Rattle.std.proofs.Common.{◌≡◌, ◌↔◌, ℕ, List, Option, Some, None, Result, Ok, Err, refl, arith}
use Rattle.std.specs.Prelude.{IfErr, IsOk, IsSomeAnd, OnOk}
use Rattle.certificates.specs.declared.certificate.Endorsement.{Endorsement}
use Rattle.handover_renewals.specs.Renewals.{Renewal}
use Rattle.handover_renewals.specs.Renewing.{AllSlots, IsGoodFor, IsSigned, Renews, signature_of}
use Rattle.handover_renewals.specs.RenewalRefusals.{IsFirstUnsigned, IsLeast, IsRenewalRefusal, IsUnsignedBy}
use Rattle.handover_renewals.specs.declared.judging.RenewalRefusal.{RenewalRefusal}
use Rattle.handover_renewals.specs.declared.judging.RenewalRefusal.TheVariants.{Chain, File, Format, Size, Weight, KeyCount, KeyId, Unsigned, KeyNumber, Signature, TooFew}

-- the least slot that fails a test is one of the slots
least_fails : (old : List ℕ) (P : ℕ → Type 0) (s : ℕ) → IsLeast old P s → AllSlots old P → ⊥
least_fails old P s least all = least.fails (all s least.place)

-- a slot of which there is no good signature
no_good : (o : Option Endorsement) (P Q : Endorsement → Type 0) → ((e : Endorsement) → P e → Q e → ⊥) → IsSomeAnd o P → IsSomeAnd o Q → ⊥
no_good (Some e) P Q h p q = h e p q
no_good None P Q h p q = p

none_good : (o : Option Endorsement) (P : Endorsement → Type 0) → o ≡ None → IsSomeAnd o P → ⊥
none_good (Some e) P is p = absurd cc
none_good None P is p = p

pub not_signed : (refusal : RenewalRefusal) (old new : List ℕ) (r : Renewal) (s : ℕ) → IsUnsignedBy refusal old new r s → IsSigned old new r s → ⊥
not_signed (Unsigned t) old new r s why is = none_good (signature_of r s) (IsGoodFor old new s) why.2 (is.signed why.1)
not_signed (KeyNumber t) old new r s why is = no_good (signature_of r s) _ (IsGoodFor old new s) (λ e p q. let key = q.key in omega arith) why.2 (is.signed why.1)
not_signed (Signature t) old new r s why is = no_good (signature_of r s) _ (IsGoodFor old new s) (λ e p q. p.1 q.verifies) why.2 (is.signed why.1)
not_signed Chain old new r s why is = why
not_signed File old new r s why is = why
not_signed Format old new r s why is = why
not_signed Size old new r s why is = why
not_signed (Weight t) old new r s why is = why
not_signed (KeyCount t) old new r s why is = why
not_signed (KeyId t) old new r s why is = why
not_signed TooFew old new r s why is = why

unsigned : (refusal : RenewalRefusal) (old new : List ℕ) (r : Renewal) → IsFirstUnsigned old new r refusal → AllSlots old (IsSigned old new r) → ⊥
unsigned refusal old new r first all = not_signed refusal old new r first.slot first.reason (all first.slot first.place)

pub refused : (refusal : RenewalRefusal) (old new : List ℕ) (r : Renewal) → IsRenewalRefusal refusal old new r → Renews old new r → ⊥
refused Chain old new r why is = why is.slots.shape.one_size.between.chain
refused File old new r why is = why.1 is.slots.shape.one_size.between.file
refused Format old new r why is = why.1 is.slots.shape.one_size.format
refused Size old new r why is = why.2 is.slots.shape.one_size.size
refused (Weight s) old new r why is = least_fails old _ s why.1 is.slots.shape.weights
refused (KeyCount s) old new r why is = least_fails old _ s why.2 is.slots.shape.counts
refused (KeyId s) old new r why is = least_fails old _ s why.1 is.slots.ids
refused (Unsigned s) old new r why is = unsigned (Unsigned s) old new r why.2 is.slots.signed
refused (KeyNumber s) old new r why is = unsigned (KeyNumber s) old new r why.2 is.slots.signed
refused (Signature s) old new r why is = unsigned (Signature s) old new r why.2 is.slots.signed
refused TooFew old new r why is = let enough = is.enough in let few = why.1 in omega arith

-- so Ok is answered just where it renews
pub exact_from : {A : Type 0} (answer : Result A RenewalRefusal) (old new : List ℕ) (r : Renewal) → OnOk answer (Renews old new r)
    → IfErr answer (λ refusal. IsRenewalRefusal refusal old new r) → IsOk answer ↔ Renews old new r
exact_from (Ok a) old new r ok err = (λ _. ok, λ _. refl)
exact_from (Err e) old new r ok err = (λ h. absurd cc, λ is. absurd (refused e old new r err is))
