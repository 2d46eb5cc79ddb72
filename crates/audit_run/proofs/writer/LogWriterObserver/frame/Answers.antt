use Rattle.std.proofs.Common.{◌∙◌, ℕ, List, Option, refl, sym, ap, subst}
use Rattle.base_streams.specs.Streams.{WrotePart}
use Rattle.log_format.specs.Exports.{frame_text}
use Rattle.audit_run.specs.Written.{Writing}
use Rattle.audit_run.proofs.Appending.{breaks, gives_up, stays_broken}
use Rattle.audit_run.proofs.writer.LogWriterObserver.frame.Goals as goal

pub returns-then-self : goal.returns-then-self
returns-then-self g c = λ s frames so_far.
    stays_broken s c.args.self.now frames c.args.payload.now (sym (ap (λ (x : Writing). x.is_broken) c.self.view_is) ∙ c.if-self.true) so_far

pub returns-then-self-2 : goal.returns-then-self-2
returns-then-self-2 g c = λ s frames so_far.
    gives_up s c.args.self.now _ frames c.args.payload.now (sym (ap (λ (x : Writing). x.is_broken) c.self.view_is) ∙ c.if-self.false) refl (sym (ap (λ (x : Writing). x.given) c.self.view_is)) so_far

pub returns-in-Err : goal.returns-in-Err
returns-in-Err g c = λ s frames so_far.
    breaks s c.args.self.now _ frames c.args.payload.now (sym (ap (λ (x : Writing). x.is_broken) c.self.view_is) ∙ c.if-self.false) refl
    (subst (λ (given : Option (List ℕ)). WrotePart given (g.W.Sink.text c.send_frame.new.sink) (frame_text c.args.payload.now)) (ap (λ (x : Writing). x.given) c.self.view_is) c.in-Err.ensures.err) so_far
