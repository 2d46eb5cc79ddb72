-- The verdicts that evidence calls for. docs/DEFINITIONS.md, "Culprits".
use Rattle.std.specs.Prelude.{◌<◌, ℕ, List}
use Rattle.std.specs.List.{AllPairs, Contains}
use Rattle.blocks.specs.Genesis.{chain_id_of}
use Rattle.certificates.specs.declared.vote.SignedVote.{SignedVote}
use Rattle.audit_evidence.specs.Evidence.{Evidence}
use Rattle.verdict_format.specs.declared.parts.BoundVote.{BoundVote}
use Rattle.verdict_format.specs.declared.parts.Shown.{Shown}
use Rattle.verdict_format.specs.declared.parts.VerdictParts.{VerdictParts}
use Rattle.verdict_format.specs.VerdictText.{IsVerdictOf}
use Rattle.verdict_format.specs.Verdicts.{replica_in}
use Rattle.audit_commits.specs.Culprits.{IsCulprit, IsNamedPair, Shows}
use Rattle.culprit_search.specs.declared.pairs.Offence.{Offence}

-- a vote without its replica
abbrev pub bound_of : SignedVote → BoundVote
bound_of v = record { key = v.key; view = v.view; id = v.id; signature = v.signature }

-- what a verdict on an offence of the replica says, where its votes are on this chain
abbrev pub parts_on : List ℕ → ℕ → Offence → VerdictParts
parts_on chain r o = record {
  chain = chain;
  replica = r;
  earlier = bound_of o.earlier;
  later = bound_of o.later;
  shown = o.shown;
}

-- .. where the votes are in evidence
abbrev pub parts_of : Evidence → ℕ → SignedVote → SignedVote → Shown → VerdictParts
parts_of e r v w s = parts_on (chain_id_of e.committee) r (record { earlier = v; later = w; shown = s })

-- the bytes are the verdict on the replica: on the pair that is named, with what shows that it breaks a rule
pub record Accuses (e : Evidence) (r : ℕ) (bytes : List ℕ) : Type 0 where
  pub earlier : SignedVote
  pub later : SignedVote
  pub named : IsNamedPair e r earlier later
  pub shown : Shown
  pub shows : Shows e earlier later shown
  pub spells : IsVerdictOf bytes (parts_of e r earlier later shown)

-- the first verdict is on a lower replica than the second
abbrev pub IsOnLowerReplica : List ℕ → List ℕ → Type 0
IsOnLowerReplica first second = replica_in first < replica_in second

-- one verdict on each culprit and no other, by rising replica
pub record AreVerdicts (e : Evidence) (verdicts : List (List ℕ)) : Type 0 where
  pub rising : AllPairs IsOnLowerReplica verdicts
  pub each : (bytes : List ℕ) → Contains verdicts bytes → Accuses e (replica_in bytes) bytes
  pub all : (r : ℕ) → IsCulprit e r → (bytes : List ℕ) × Contains verdicts bytes × Accuses e r bytes
