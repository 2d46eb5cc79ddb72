-- What correct replicas did, and hold of it, and which of them vote for one handover a chain.
use Rattle.std.specs.Prelude.{◌≡◌, ◌<◌, ◌≤◌, ◌*◌, ℕ, false, List}
use Rattle.std.specs.List.{Contains}
use Rattle.blocks.specs.Chains.{AllIn, NoCollision}
use Rattle.blocks.specs.Committees.{n_of}
use Rattle.blocks.specs.Genesis.{genesis_of}
use Rattle.blocks.specs.Headers.{Header}
use Rattle.blocks.specs.Replica.{Event, Vote, IsRun, headers_of, votes_of}
use Rattle.blocks.specs.Weights.{committee_of, is_among, quorum_of, total_of}
use Rattle.certificates.specs.BlockChecks.{IsChecked}
use Rattle.certificates.specs.Certificates.{Certificate}
use Rattle.certificates.specs.Votes.{ballot_of}
use Rattle.certificates.specs.declared.vote.SignedVote.{SignedVote}
use Rattle.audit_evidence.specs.Evidence.{Evidence}
use Rattle.audit_evidence.specs.NamedVotes.{certificate_votes}
use Rattle.audit_commits.specs.AccountabilityLaws.{weight_among}
use Rattle.handover_blocks.specs.Handovers.{IsHandover}

-- ---- one replica

-- a run, and certificates
pub record History : Type 0 where
  pub run : List Event
  pub certificates : List Certificate

-- one of the certificates is good, and on the parent of this block
abbrev pub HasCertificateFor : List ℕ → List Certificate → Header → Type 0
HasCertificateFor committee certificates b = (c : Certificate) × Contains certificates c × IsChecked committee b c

-- a run of a correct replica, and a good certificate on the parent of each block that it voted for
pub record IsHistory (committee : List ℕ) (h : History) : Type 0 where
  pub is_run : IsRun (genesis_of committee) h.run
  pub held : (b : Header) (chain : List Header) → Contains h.run (Vote b chain) → HasCertificateFor committee h.certificates b

-- the rule "one handover a chain": no vote for a block that hands over, where one stands in its chain below
abbrev pub HasOneHandoverAChain : List Event → Type 0
HasOneHandoverAChain run =
    (b : Header) (chain : List Header) → Contains run (Vote b chain) → IsHandover b
    → (h : Header) → Contains chain h → IsHandover h → ⊥

-- ---- what is at hand

-- each vote of a certificate is
abbrev pub HasVotesOf : Evidence → Certificate → Type 0
HasVotesOf e c = (v : SignedVote) → Contains (certificate_votes c) v → Contains e.votes v

-- the headers of a history are, and the votes of its certificates
pub record HasHistory (e : Evidence) (h : History) : Type 0 where
  pub headers : AllIn e.headers (headers_of h.run)
  pub votes : (c : Certificate) → Contains h.certificates c → HasVotesOf e c

-- replica r is correct: it has such a history, and each vote of it that is at hand is one of its run
pub record IsCorrect (e : Evidence) (r : ℕ) : Type 0 where
  pub history : History
  pub is_history : IsHistory e.committee history
  pub at_hand : HasHistory e history
  pub signs_only : (v : SignedVote) → Contains e.votes v → v.replica ≡ r → Contains (votes_of history.run) (ballot_of v)

-- .. and keeps the rule
pub record IsCareful (e : Evidence) (r : ℕ) : Type 0 where
  pub correct : IsCorrect e r
  pub one : HasOneHandoverAChain correct.history.run

-- ---- the replicas of a committee

-- each replica that is not among the faulty is correct, and each that is not among the careless keeps the rule; the faulty weigh a third
-- at most, and the careless less than a quorum; and no two different headers at hand, with genesis, have one id
pub record AreHistories (e : Evidence) (faulty careless : List ℕ) : Type 0 where
  pub apart : NoCollision e.headers
  pub genesis : Contains e.headers (genesis_of e.committee)
  pub correct : (r : ℕ) → r < n_of e.committee → is_among faulty r ≡ false → IsCorrect e r
  pub careful : (r : ℕ) → r < n_of e.committee → is_among careless r ≡ false → IsCareful e r
  pub few_faulty : 3 * weight_among (committee_of e.committee) faulty ≤ total_of e.committee
  pub few_careless : weight_among (committee_of e.committee) careless < quorum_of e.committee
