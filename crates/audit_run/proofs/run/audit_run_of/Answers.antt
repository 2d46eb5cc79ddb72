use Rattle.std.proofs.Common.{List, rules, sym, subst}
use Rattle.std.specs.List.{AllZip}
use Rattle.parallel_verify.specs.declared.judging.Judging.TheVariants.{No}
use Rattle.parallel_verify.specs.declared.source.Source.{Source}
use Rattle.parallel_verify.proofs.Outcomes.{tries_of}
use Rattle.audit_run.specs.Runs.{IsCompleteSource}
use Rattle.audit_run.proofs.Accounts.{run_of}
use Rattle.audit_run.proofs.run.audit_run_of.Goals as goal

pub audit_judged-requires-clause-tries : goal.audit_judged-requires-clause-tries
audit_judged-requires-clause-tries g c = λ κs bounds. tries_of g.C.Connector.allowed c.in_ok-observed.observed.items c.args.sources.items c.in_ok-observed.ensures c.requires.tries

pub returns-in-Ok-clause-answer : goal.returns-in-Ok-clause-answer
returns-in-Ok-clause-answer g c =
    let done = c.in-Ok.ensures in
    record {
      ok = (c.in-Ok.found.evidence, run_of g.C.Connector _ c.args.committee.now No c.in_ok-observed.observed.items c.args.sources.items c.in-Ok.found _ c.in_ok-observed.ensures done.run, done.wrote);
      accepted = done.accepted;
      more_than_a_third = done.more_than_a_third;
      no_failure = done.no_failure;
      refused = search rules;
      unwritten = search rules;
      sink = search rules;
      cause = search rules;
    }

pub returns-in-Ok-clause-accountability : goal.returns-in-Ok-clause-accountability
returns-in-Ok-clause-accountability g c logs complete prove =
    let same = c.in_ok-observed.ensures in
    let done = c.in-Ok.ensures in
    let all = subst (λ (ss : List (Source g.row.C.Denot)). AllZip (IsCompleteSource g.C.Connector.gives) ss logs) (sym same) complete in
    (c.in-Ok.found.evidence, run_of g.C.Connector _ c.args.committee.now No c.in_ok-observed.observed.items c.args.sources.items c.in-Ok.found _ same done.run, done.wrote, done.accountability logs all prove)

pub returns-clause-accountability : goal.returns-clause-accountability
returns-clause-accountability g c logs complete prove =
    let all = subst (λ (ss : List (Source g.row.C.Denot)). AllZip (IsCompleteSource g.C.Connector.gives) ss logs) (sym c.in_ok-observed.ensures) complete in
    c.in-Err.ensures.accountability logs all prove
