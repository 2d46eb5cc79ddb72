use Rattle.std.proofs.Common.{List, subst}
use Rattle.std.proofs.lemmas.Result.{IfOk-weaker}
use Rattle.parallel_verify.specs.declared.source.Source.{Source}
use Rattle.parallel_verify.proofs.Outcomes.{tries_of}
use Rattle.program_tool.specs.Audits.{IsAuditPrinted}
use Rattle.program_tool.specs.Strict.{AreFound}
use Rattle.program_tool.proofs.audit.audit_kept.Goals as goal

pub print_found-judged-requires-clause-tries : goal.print_found-judged-requires-clause-tries
print_found-judged-requires-clause-tries g c = λ κs bounds. tries_of g.C.Connector.allowed c.in_ok-observed.observed.items c.args.sources.items c.in_ok-observed.ensures c.requires.tries

pub returns-clause-printed : goal.returns-clause-printed
returns-clause-printed g c =
    IfOk-weaker c.print_found-judged.result _ _ (λ found printed. (
      c.judging_for-judging.result,
      c.judging_for-judging.ensures,
      subst (λ (ss : List (Source g.row.C.Denot)). IsAuditPrinted g.C.Connector (AreFound c.judging_for-judging.result found.judged.items found.report) c.args.committee.now ss (g.W.Sink.text c.args.out.now) (g.W.Sink.text c.print_found-judged.new.out) found.report.verdicts) c.in_ok-observed.ensures printed,
    )) c.print_found-judged.ensures.printed
