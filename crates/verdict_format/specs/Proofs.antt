-- When a verdict proves that a replica broke a voting rule (double votes and lock violations, as
-- docs/DEFINITIONS.md, "Broken rules", says; Sheng and others, BFT Protocol Forensics, CCS 2021, call them
-- equivocation and amnesia).
use Rattle.std.specs.Prelude.{◌≡◌, ◌==◌, ◌++◌, ℕ, List, [], ◌∷◌, Option, Some, None, IsSomeAnd}
use Rattle.std.specs.Bool.{MatchBool}
use Rattle.std.specs.List.{Contains}
use Rattle.blocks.specs.Headers.{Header}
use Rattle.blocks.specs.Chains.{NoCollision}
use Rattle.blocks.specs.Genesis.{genesis_of, chain_id_of}
use Rattle.blocks.specs.declared.ballot.Ballot.{Ballot}
use Rattle.blocks.specs.Replica.{Event, IsRun, votes_of, headers_of}
use Rattle.blocks.specs.Lives.{Stay, IsLife, released_in, headers_of_life}
use Rattle.blocks.specs.Rules.{IsDoubleVote, IsLockViolation}
use Rattle.certificates.specs.Votes.{IsGoodVote}
use Rattle.verdict_format.specs.Verdicts.{VotedHeaders, IsVerdict, verdict_kind_in, chain_in, earlier_in, later_in, earlier_vote_in, later_vote_in, headers_in}

-- two votes and the headers behind them are a lock violation
abbrev pub IsLockViolationBy : Ballot → Ballot → VotedHeaders → Type 0
IsLockViolationBy e w h = IsLockViolation e w h.earlier h.parent h.later

-- the votes of a verdict break the rule that it names; the headers are needed for a lock violation alone
abbrev pub BreaksRule : List ℕ → Type 0
BreaksRule bytes =
    MatchBool (verdict_kind_in bytes == 1)
    (IsDoubleVote (earlier_in bytes) (later_in bytes))
    (IsSomeAnd (headers_in bytes) (IsLockViolationBy (earlier_in bytes) (later_in bytes)))

-- a verdict on the committee's chain, with two good votes of one replica that break the rule it names: each is signed with
-- the key of the replica that the vote names
pub record IsProof (committee bytes : List ℕ) : Type 0 where
  pub verdict : IsVerdict bytes
  pub chain : chain_in bytes ≡ chain_id_of committee
  pub broken : BreaksRule bytes
  pub earlier : IsGoodVote committee (earlier_vote_in bytes)
  pub later : IsGoodVote committee (later_vote_in bytes)

-- ---- what a proof means

-- no run of a correct replica over the committee's genesis has both votes of the verdict
abbrev pub NoRunHasBothVotes : List ℕ → List ℕ → Type 0
NoRunHasBothVotes committee bytes =
    (run : List Event) → IsRun (genesis_of committee) run
    → Contains (votes_of run) (earlier_in bytes) → Contains (votes_of run) (later_in bytes) → ⊥

-- the headers of a verdict, if it has any
abbrev pub shown_by : Option VotedHeaders → List Header
shown_by None = []
shown_by (Some h) = h.earlier ∷ h.parent ∷ h.later ∷ []

-- the same of the runs among whose headers and the verdict's no two different ones have one id
abbrev pub NoRunApartHasBothVotes : List ℕ → List ℕ → Type 0
NoRunApartHasBothVotes committee bytes =
    (run : List Event) → IsRun (genesis_of committee) run → NoCollision (shown_by (headers_in bytes) ++ headers_of run)
    → Contains (votes_of run) (earlier_in bytes) → Contains (votes_of run) (later_in bytes) → ⊥

-- ---- .. of a replica over all its restarts

-- no life over the committee's genesis released both votes of the verdict
abbrev pub NoLifeReleasedBothVotes : List ℕ → List ℕ → Type 0
NoLifeReleasedBothVotes committee bytes =
    (life : List Stay) → IsLife (genesis_of committee) life
    → Contains (released_in life) (earlier_in bytes) → Contains (released_in life) (later_in bytes) → ⊥

-- the same of the lives among whose headers and the verdict's no two different ones have one id
abbrev pub NoLifeApartReleasedBothVotes : List ℕ → List ℕ → Type 0
NoLifeApartReleasedBothVotes committee bytes =
    (life : List Stay) → IsLife (genesis_of committee) life → NoCollision (shown_by (headers_in bytes) ++ headers_of_life life)
    → Contains (released_in life) (earlier_in bytes) → Contains (released_in life) (later_in bytes) → ⊥
