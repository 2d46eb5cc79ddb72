-- The laws of handovers.
use Rattle.std.specs.Prelude.{◌≡◌, ◌≢◌, ◌≤◌, ◌⊎◌, ◌<◌, ◌*◌, ◌∷◌, ℕ, List, Bool, IsTrue}
use Rattle.std.specs.List.{Contains}
use Rattle.blocks.specs.Headers.{Header}
use Rattle.blocks.specs.Weights.{Committee, total_weight, committee_of}
use Rattle.audit_evidence.specs.Evidence.{Evidence, IsEvidence}
use Rattle.audit_commits.specs.Commits.{HasNoConflict, IsProvedCommit}
use Rattle.audit_commits.specs.Culprits.{AreCulprits}
use Rattle.audit_commits.specs.AccountabilityLaws.{weight_among}
use Rattle.handover_blocks.specs.Handovers.{handover_payload, IsFirstCommitted, IsHandover, IsSuccessor, Includes, Step, IsLineage, AreAlike, PartAt}

-- more than a third of the weight of the evidence's committee
abbrev pub AreMoreThanAThird : Evidence → List ℕ → Type 0
AreMoreThanAThird e culprits =
    total_weight (committee_of e.committee) < 3 * weight_among (committee_of e.committee) culprits

-- the first block on a committed chain that passes a test
abbrev pub IsFirstOf : Committee → Evidence → (Header → Bool) → Header → Type 0
IsFirstOf c e is b = IsFirstCommitted c e (λ h. IsTrue (is h)) b

-- what is proved stays proved as evidence is added
abbrev pub HandoversStayProved : Type 0
HandoversStayProved =
    (e part : Evidence) → Includes e part
    → ((c : Committee) (b : Header) → IsProvedCommit c part b → IsProvedCommit c e b)
    × ((c : Committee) (is : Header → Bool) (b : Header) → IsFirstOf c part is b → IsFirstOf c e is b)
    × ((new : List ℕ) → IsSuccessor part new → IsSuccessor e new)

-- of any kind of block that a test tells
abbrev pub FirstHandoversAreOneOrAccuse : Type 0
FirstHandoversAreOneOrAccuse =
    (e : Evidence) (is : Header → Bool) (b d : Header) (culprits : List ℕ)
    → IsEvidence e
    → IsFirstOf (committee_of e.committee) e is b → IsFirstOf (committee_of e.committee) e is d
    → b ≢ d → AreCulprits e culprits
    → AreMoreThanAThird e culprits

-- two files with different digests
abbrev pub DifferentSuccessorsAccuse : Type 0
DifferentSuccessorsAccuse =
    (e : Evidence) (new other culprits : List ℕ)
    → IsEvidence e → IsSuccessor e new → IsSuccessor e other
    → handover_payload new ≢ handover_payload other → AreCulprits e culprits
    → AreMoreThanAThird e culprits

-- .. each proved by what another party holds
abbrev pub SuccessorsInTwoHandsAccuse : Type 0
SuccessorsInTwoHandsAccuse =
    (e mine yours : Evidence) (new other culprits : List ℕ)
    → IsEvidence e → Includes e mine → Includes e yours
    → IsSuccessor mine new → IsSuccessor yours other
    → handover_payload new ≢ handover_payload other → AreCulprits e culprits
    → AreMoreThanAThird e culprits

-- where no two commits conflict, the chain of a commit has each first handover that a commit of no greater view shows
abbrev pub FirstsStandInTheHighestChain : Type 0
FirstsStandInTheHighestChain =
    (e : Evidence) (u b : Header)
    → IsEvidence e → HasNoConflict (committee_of e.committee) e
    → (m : IsProvedCommit (committee_of e.committee) e u)
    → (k : IsFirstCommitted (committee_of e.committee) e IsHandover b)
    → k.tip.view ≤ u.view
    → Contains (u ∷ m.chain) b

-- .. and there is one at most
abbrev pub OneFirstWhereNoneConflict : Type 0
OneFirstWhereNoneConflict =
    (e : Evidence) (b d : Header)
    → IsEvidence e → HasNoConflict (committee_of e.committee) e
    → IsFirstCommitted (committee_of e.committee) e IsHandover b
    → IsFirstCommitted (committee_of e.committee) e IsHandover d
    → b ≡ d

abbrev pub LineagesPartAtOneCommittee : Type 0
LineagesPartAtOneCommittee =
    (root : List ℕ) (xs ys : List Step)
    → IsLineage root xs → IsLineage root ys
    → AreAlike xs ys ⊎ ((s : Step) × (t : Step) × PartAt xs ys s t)
