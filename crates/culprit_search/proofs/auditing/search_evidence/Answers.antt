use Rattle.culprit_search.proofs.auditing.search_evidence.Goals as goal

pub returns : goal.returns
returns c = record {
  evidence = c.certified_chains.ensures.evidence;
  committee = c.certified_chains.ensures.committee;
  chains = c.in_ok-chains.ensures.chains;
  known = c.in_ok-commits.ensures.known;
  proved = c.in_ok-commits.ensures.proved _ c.certified_chains.ensures.evidence c.in_ok-chains.ensures.chains;
}
