use Rattle.std.proofs.Common.{Err, ap, refl}
use Rattle.program_tool.proofs.Keepings.{logs_kept}
use Rattle.program_tool.proofs.audit.print_judged.Goals as goal

pub returns-in-Ok-clause-printed : goal.returns-in-Ok-clause-printed
returns-in-Ok-clause-printed g c =
    let done = c.in-Ok.ensures in
    let run = done.run in
    record {
      evidence = c.in-Ok.done.0.evidence;
      report = c.in-Ok.done.0.report;
      run = record {
        under = run.under;
        evidence = record { logs = run.reading.logs; given = run.reading.given; evidence = run.reading.evidence };
        sound = run.sound;
        caused = run.reading.caused;
        audit = run.audit;
      };
      accountability = done.accountability;
      are = (record { each = run.reading.judged; is = refl }, logs_kept (λ k. k.writer) c.what_is_kept_is_the_log.ensures c.args.sources.items run.reading.logs c.in-Ok.done.1.items run.reading.seen);
      with = refl;
      proofs = done.accepted;
      more_than_a_third = done.more_than_a_third;
      wrote = done.wrote;
    }

pub returns-in-Err-clause-counted : goal.returns-in-Err-clause-counted
returns-in-Err-clause-counted g c = (
  λ is. c.in-Err.ensures.cause (ap (λ e. Err e) (c.fault_of_run.ensures.output.1 is)),
  λ isn't. ap g.W.Sink.failed (c.in-Err.ensures.unwritten (λ e. isn't (c.fault_of_run.ensures.output.0 e))),
)
