-- Why a committee does not renew another: the first test that is not passed.
use Rattle.std.specs.Prelude.{◌≡◌, ◌≢◌, ◌<◌, ◌≤◌, ℕ, false, List, codes, Option, Some, None, IsSomeAnd}
use Rattle.sha2.specs.Sha256.{sha256}
use Rattle.blocks.specs.Committees.{n_of, keys_of}
use Rattle.blocks.specs.Genesis.{chain_id_of}
use Rattle.blocks.specs.Weights.{quorum_of}
use Rattle.handover_renewals.specs.Renewals.{Renewal}
use Rattle.handover_renewals.specs.Slots.{is_kept, new_weight}
use Rattle.handover_renewals.specs.Renewing.{AllSlots, HasCount, HasIds, HasWeight, HaveGoodSlots, HaveOneFormat, HaveOneShape, HaveOneSize, IsBetween, IsSigned, VerifiesUnder, signature_of}
use Rattle.handover_renewals.specs.declared.judging.RenewalRefusal.{RenewalRefusal}
use Rattle.handover_renewals.specs.declared.judging.RenewalRefusal.TheVariants.{Chain, File, Format, Size, Weight, KeyCount, KeyId, Unsigned, KeyNumber, Signature, TooFew}

-- the least slot of a committee that does not pass a test
pub record IsLeast (committee : List ℕ) (P : ℕ → Type 0) (s : ℕ) : Type 0 where
  pub place : s < n_of committee
  pub before : (t : ℕ) → t < s → P t
  pub fails : P s → ⊥

-- why a slot is not signed: it is new, and the renewal has no signature of it, or one by a key that it has not, or one that does not
-- verify
abbrev pub IsUnsignedBy : RenewalRefusal → List ℕ → List ℕ → Renewal → ℕ → Type 0
IsUnsignedBy (Unsigned t) old new r s = (t ≡ s) × (is_kept old new s ≡ false) × (signature_of r s ≡ None)
IsUnsignedBy (KeyNumber t) old new r s = (t ≡ s) × (is_kept old new s ≡ false) × IsSomeAnd (signature_of r s) (λ e. keys_of old s ≤ e.key)
IsUnsignedBy (Signature t) old new r s = (t ≡ s) × (is_kept old new s ≡ false) × IsSomeAnd (signature_of r s) (λ e. (e.key < keys_of old s) × (VerifiesUnder old new s e.key e.signature → ⊥))
IsUnsignedBy _ old new r s = ⊥

-- the least slot that is not signed, and why
pub record IsFirstUnsigned (old new : List ℕ) (r : Renewal) (refusal : RenewalRefusal) : Type 0 where
  pub slot : ℕ
  pub place : slot < n_of old
  pub before : (s : ℕ) → s < slot → IsSigned old new r s
  pub reason : IsUnsignedBy refusal old new r slot

-- the tests before this one are passed, and this one is not
abbrev pub IsRenewalRefusal : RenewalRefusal → List ℕ → List ℕ → Renewal → Type 0
IsRenewalRefusal Chain old new r = r.chain ≢ chain_id_of old
IsRenewalRefusal File old new r = (r.chain ≡ chain_id_of old) × (r.certificate.id ≢ sha256 new)
IsRenewalRefusal Format old new r = IsBetween old new r × (HaveOneFormat old new → ⊥)
IsRenewalRefusal Size old new r = IsBetween old new r × HaveOneFormat old new × (n_of new ≢ n_of old)
IsRenewalRefusal (Weight s) old new r = HaveOneSize old new r × IsLeast old (HasWeight old new) s
IsRenewalRefusal (KeyCount s) old new r = HaveOneSize old new r × AllSlots old (HasWeight old new) × IsLeast old (HasCount old new) s
IsRenewalRefusal (KeyId s) old new r = HaveOneShape old new r × IsLeast old (HasIds old new) s
IsRenewalRefusal TooFew old new r = HaveGoodSlots old new r × (new_weight old new < quorum_of old)
IsRenewalRefusal refusal old new r = HaveOneShape old new r × AllSlots old (HasIds old new) × IsFirstUnsigned old new r refusal

-- the number that docs/REFUSALS.md gives a refusal
abbrev pub renewal_refusal_number : RenewalRefusal → ℕ
renewal_refusal_number Chain = 1
renewal_refusal_number File = 2
renewal_refusal_number Format = 3
renewal_refusal_number Size = 4
renewal_refusal_number (Weight s) = 5
renewal_refusal_number (KeyCount s) = 6
renewal_refusal_number (KeyId s) = 7
renewal_refusal_number (Unsigned s) = 8
renewal_refusal_number (KeyNumber s) = 9
renewal_refusal_number (Signature s) = 10
renewal_refusal_number TooFew = 11

-- its name, as it is printed
abbrev pub renewal_refusal_name : RenewalRefusal → List ℕ
renewal_refusal_name Chain = codes "Chain"
renewal_refusal_name File = codes "File"
renewal_refusal_name Format = codes "Format"
renewal_refusal_name Size = codes "Size"
renewal_refusal_name (Weight s) = codes "Weight"
renewal_refusal_name (KeyCount s) = codes "KeyCount"
renewal_refusal_name (KeyId s) = codes "KeyId"
renewal_refusal_name (Unsigned s) = codes "Unsigned"
renewal_refusal_name (KeyNumber s) = codes "KeyNumber"
renewal_refusal_name (Signature s) = codes "Signature"
renewal_refusal_name TooFew = codes "TooFew"

-- the slot that is refused, if it is one
abbrev pub slot_refused : RenewalRefusal → Option ℕ
slot_refused Chain = None
slot_refused File = None
slot_refused Format = None
slot_refused Size = None
slot_refused (Weight s) = Some s
slot_refused (KeyCount s) = Some s
slot_refused (KeyId s) = Some s
slot_refused (Unsigned s) = Some s
slot_refused (KeyNumber s) = Some s
slot_refused (Signature s) = Some s
slot_refused TooFew = None
