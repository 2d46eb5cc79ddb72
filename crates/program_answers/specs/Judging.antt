-- What is answered to whoever has a verdict judged, and written for them.
use Rattle.std.specs.Prelude.{◌≡◌, ◌↔◌, ℕ, ℤ, List, Err, pos, neg_ℤ}
use Rattle.blocks.specs.Committees.{IsCommittee}
use Rattle.blocks.specs.declared.committee.CommitteeRefusal.{CommitteeRefusal}
use Rattle.blocks.specs.CommitteeReading.{committee_in, committee_refusal_number}
use Rattle.verdict_format.specs.RuleNumbers.{rule_number}
use Rattle.verdict_format.specs.Proofs.{IsProof, NoRunHasBothVotes, NoRunApartHasBothVotes, NoLifeReleasedBothVotes, NoLifeApartReleasedBothVotes}
use Rattle.verdict_format.specs.Verdicts.{verdict_kind_in, replica_in, later_in}
use Rattle.verdict_checker.specs.Checks.{IsRefused, refusal_number}
use Rattle.verdict_checker.specs.declared.checker.Finding.{Finding}
use Rattle.verdict_checker.specs.declared.refusal.Refusal.{Refusal}
use Rattle.program_answers.specs.declared.judging.HsFinding.{HsFinding}

-- ---- numbers

-- the verdict is refused by the first test that it does not pass, and the answer is the number of that
pub record IsRefusedAs (committee verdict : List ℕ) (answer : ℤ) : Type 0 where
  pub refusal : Refusal
  pub first : IsRefused committee verdict refusal
  pub number : answer ≡ pos (refusal_number refusal)

-- the committee is refused by the first test that it does not pass, and the answer is minus the number of that
pub record IsCommitteeRefusedAs (committee : List ℕ) (answer : ℤ) : Type 0 where
  pub refusal : CommitteeRefusal
  pub first : committee_in committee ≡ Err refusal
  pub number : answer ≡ neg_ℤ (pos (committee_refusal_number refusal))

-- ---- findings

-- C's struct says what the checker's finding says
pub record SaysTheSame (finding : Finding) (written : HsFinding) : Type 0 where
  pub replica : written.replica ≡ finding.replica
  pub rule : written.rule ≡ rule_number finding.rule
  pub view : written.view ≡ finding.view

-- the replica, the rule and the later vote's view of the verdict
pub record IsWrittenFindingOf (verdict : List ℕ) (written : HsFinding) : Type 0 where
  pub replica : written.replica ≡ replica_in verdict
  pub rule : written.rule ≡ verdict_kind_in verdict
  pub view : written.view ≡ (later_in verdict).view

-- ---- answers

-- what is answered, and what becomes of the finding
pub record IsJudged (committee verdict : List ℕ) (old new : HsFinding) (answer : ℤ) : Type 0 where
  pub accepted : (answer ≡ pos 0) ↔ (IsCommittee committee × IsProof committee verdict)
  pub finding : answer ≡ pos 0 → IsWrittenFindingOf verdict new
  pub first_refusal : IsCommittee committee → (IsProof committee verdict → ⊥) → IsRefusedAs committee verdict answer
  pub committee_refused : (IsCommittee committee → ⊥) → IsCommitteeRefusedAs committee answer
  pub untouched : (answer ≡ pos 0 → ⊥) → new ≡ old

-- where the verdict is accepted, no run of a correct replica, and none over all its crashes and restarts, has both votes, as
-- far as no two different headers among those of the run and of the verdict have one id; of a double vote whatever the ids
pub record ShowsGuilt (committee verdict : List ℕ) (answer : ℤ) : Type 0 where
  pub sound : answer ≡ pos 0 → NoRunApartHasBothVotes committee verdict
  pub sound_of_double_votes : answer ≡ pos 0 → verdict_kind_in verdict ≡ 1 → NoRunHasBothVotes committee verdict
  pub sound_of_lives : answer ≡ pos 0 → NoLifeApartReleasedBothVotes committee verdict
  pub sound_of_lives_and_double_votes : answer ≡ pos 0 → verdict_kind_in verdict ≡ 1 → NoLifeReleasedBothVotes committee verdict
