-- Why no renewal is made of endorsements: the first test that is not passed.
use Rattle.std.specs.Prelude.{◌≡◌, ◌<◌, ℕ, List, Err, length, take}
use Rattle.blocks.specs.Committees.{IsCommittee}
use Rattle.blocks.specs.CommitteeReading.{committee_in}
use Rattle.blocks.specs.Weights.{quorum_of}
use Rattle.handover_keys.specs.EndorsementChecks.{IsEndorsementRefusal}
use Rattle.handover_keys.specs.declared.checking.EndorsementRefusal.{EndorsementRefusal}
use Rattle.handover_renewals.specs.Slots.{new_weight}
use Rattle.handover_renewals.specs.Endorsed.{AreByDifferent, AreGood, nth, replica_of}
use Rattle.handover_renewals.specs.Composing.{composed_file}
use Rattle.handover_renewals.specs.declared.making.MakingRefusal.{MakingRefusal}
use Rattle.handover_renewals.specs.declared.making.MakingRefusal.TheVariants.{Memory, Endorsement, Twice, Committee, TooFew}

-- the first that is not good, and why
pub record IsFirstBad (old : List ℕ) (es : List (List ℕ)) (place : ℕ) (refusal : EndorsementRefusal) : Type 0 where
  pub there : place < length es
  pub before : AreGood old (take place es)
  pub refused : IsEndorsementRefusal old (nth es place) refusal

-- the first that is of the replica of an earlier one, and that one
pub record IsFirstTwice (es : List (List ℕ)) (earlier later : ℕ) : Type 0 where
  pub there : later < length es
  pub order : earlier < later
  pub before : AreByDifferent (take later es)
  pub same : replica_of (nth es earlier) ≡ replica_of (nth es later)

-- each is good, and no two are of one replica
pub record ArePassed (old : List ℕ) (es : List (List ℕ)) : Type 0 where
  pub good : AreGood old es
  pub different : AreByDifferent es

-- the tests before this one are passed, and this one is not; memory is asked for when the endorsements are judged
abbrev pub IsMakingRefusal : MakingRefusal → List ℕ → List (List ℕ) → Type 0
IsMakingRefusal (Endorsement place refusal) old es = IsFirstBad old es place refusal
IsMakingRefusal (Twice earlier later) old es = AreGood old es × IsFirstTwice es earlier later
IsMakingRefusal Memory old es = ArePassed old es
IsMakingRefusal (Committee refusal) old es = ArePassed old es × (committee_in (composed_file old es) ≡ Err refusal)
IsMakingRefusal TooFew old es = ArePassed old es × IsCommittee (composed_file old es) × (new_weight old (composed_file old es) < quorum_of old)

-- the number that docs/REFUSALS.md gives a refusal
abbrev pub making_refusal_number : MakingRefusal → ℕ
making_refusal_number Memory = 1
making_refusal_number (Endorsement place refusal) = 2
making_refusal_number (Twice earlier later) = 3
making_refusal_number (Committee refusal) = 4
making_refusal_number TooFew = 5
