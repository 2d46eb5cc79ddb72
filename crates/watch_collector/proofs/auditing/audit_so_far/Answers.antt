use Rattle.watch_collector.proofs.auditing.audit_so_far.Goals as goal

pub returns-clause-audit : goal.returns-clause-audit
returns-clause-audit c committee logs known = record {
  evidence = c.in_ok-evidence.ensures.evidence committee logs known;
  audit = c.in_ok-report.ensures.ok;
}
