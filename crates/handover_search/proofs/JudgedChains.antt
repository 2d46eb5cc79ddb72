-- What searches over an index of certified headers say of evidence.
use Rattle.std.proofs.Common.{◌≡◌, List, subst, sym}
use Rattle.blocks.specs.Headers.{Header}
use Rattle.blocks.specs.Weights.{committee_of}
use Rattle.ancestry.specs.Known.{Known}
use Rattle.audit_evidence.specs.Evidence.{Evidence, IsEvidence}
use Rattle.audit_commits.specs.Chosen.{AreCertifiedHeaders}
use Rattle.audit_commits.specs.Commits.{AreProvedCommits}
use Rattle.handover_search.specs.Searches.{AreCommitsOf}

pub commits_of : (e : Evidence) (known : Known) (commits commits' : List Header) → IsEvidence e → AreCertifiedHeaders e known
    → AreProvedCommits (committee_of e.committee) e commits → commits' ≡ commits → AreCommitsOf e known commits'
commits_of e known commits commits' is certified proved same = record {
  evidence = is;
  certified = certified;
  proved = subst (AreProvedCommits (committee_of e.committee) e) (sym same) proved;
}
