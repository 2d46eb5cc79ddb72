-- What is searched in evidence before culprits are.
use Rattle.std.specs.Prelude.{List}
use Rattle.std.specs.List.{All, Contains}
use Rattle.ancestry.specs.Known.{all_of}
use Rattle.blocks.specs.Committees.{IsCommittee}
use Rattle.blocks.specs.Weights.{committee_of}
use Rattle.audit_commits.specs.Chosen.{AreCertifiedHeaders}
use Rattle.audit_commits.specs.Commits.{AreProvedCommits}
use Rattle.audit_evidence.specs.Evidence.{Evidence, IsEvidence}
use Rattle.culprit_search.specs.declared.auditing.Searched.{Searched}

-- the index of the certified headers of this evidence, and all of its proved commits
pub record IsSearchOf (e : Evidence) (s : Searched) : Type 0 where
  pub evidence : IsEvidence e
  pub committee : IsCommittee e.committee
  pub chains : AreCertifiedHeaders e s.chains
  pub known : All (Contains (all_of s.chains)) s.commits.items
  pub proved : AreProvedCommits (committee_of e.committee) e s.commits.items
