use Rattle.std.proofs.Common.{◌≡◌, ◌∙◌, refl, rules, sym, ap, subst}
use Rattle.base_streams.specs.Streams.{WrotePart}
use Rattle.log_format.specs.Exports.{end_mark}
use Rattle.log_format.specs.declared.status.Status.TheVariants.{Whole}
use Rattle.audit_run.specs.Written.{Writing}
use Rattle.audit_run.proofs.Appending.{end_breaks, end_of_broken}
use Rattle.audit_run.proofs.writer.LogWriterObserver.end.Goals as goal

pub returns-then-self : goal.returns-then-self
returns-then-self g c = λ s frames so_far.
    end_of_broken s c.args.self.now frames c.args.status (sym (ap (λ (x : Writing). x.is_broken) c.self.view_is) ∙ c.if-self.true) so_far

pub returns-in-Err : goal.returns-in-Err
returns-in-Err g c = λ s frames so_far.
    let whole : c.args.status ≡ Whole = search rules in
    end_breaks s c.args.self.now _ frames c.args.status (sym (ap (λ (x : Writing). x.is_broken) c.self.view_is) ∙ c.if-self.false) refl whole
    (subst (λ (x : Writing). WrotePart x.given (g.W.Sink.text c.end_export.new.sink) (end_mark x.count)) c.self.view_is c.in-Err.ensures.err) so_far
