use Rattle.std.proofs.Common.{◌∙◌, List, ℕ, ap, codes, subst, sym}
use Rattle.base_streams.specs.Streams.{Wrote, WrotePart}
use Rattle.base_text.proofs.Pieces.{on_err_too, on_ok_too}
use Rattle.replica_requests.specs.OutcomeLines.{numbered_line, outcome_line}
use Rattle.replica_requests.specs.declared.outcome.Outcome.{Outcome}
use Rattle.replica_requests.proofs.outcome_line.write_came.Goals as goal

pub returns-in-RefusedHeader-clause-ok : goal.returns-in-RefusedHeader-clause-ok
returns-in-RefusedHeader-clause-ok g c =
    let text = ap (λ (n : ℕ). numbered_line (codes "refused header ") n) c.number.ensures ∙ ap (λ (o : Outcome). outcome_line o) (sym c.in-RefusedHeader.is) in
    on_ok_too c.write_numbered-in-RefusedHeader.result _ _
    (λ done. subst (λ (t : List ℕ). Wrote (g.W.Sink.text c.args.out.now) (g.W.Sink.text c.write_numbered-in-RefusedHeader.new.out) t) text done) c.write_numbered-in-RefusedHeader.ensures.ok

pub returns-in-RefusedHeader-clause-err : goal.returns-in-RefusedHeader-clause-err
returns-in-RefusedHeader-clause-err g c =
    let text = ap (λ (n : ℕ). numbered_line (codes "refused header ") n) c.number.ensures ∙ ap (λ (o : Outcome). outcome_line o) (sym c.in-RefusedHeader.is) in
    on_err_too c.write_numbered-in-RefusedHeader.result _ _
    (λ done. subst (λ (t : List ℕ). WrotePart (g.W.Sink.text c.args.out.now) (g.W.Sink.text c.write_numbered-in-RefusedHeader.new.out) t) text done) c.write_numbered-in-RefusedHeader.ensures.err

pub returns-in-RefusedBlock-clause-ok : goal.returns-in-RefusedBlock-clause-ok
returns-in-RefusedBlock-clause-ok g c =
    let text = ap (λ (n : ℕ). numbered_line (codes "refused block ") n) c.number-in-RefusedBlock.ensures ∙ ap (λ (o : Outcome). outcome_line o) (sym c.in-RefusedBlock.is) in
    on_ok_too c.write_numbered-in-RefusedBlock.result _ _
    (λ done. subst (λ (t : List ℕ). Wrote (g.W.Sink.text c.args.out.now) (g.W.Sink.text c.write_numbered-in-RefusedBlock.new.out) t) text done) c.write_numbered-in-RefusedBlock.ensures.ok

pub returns-in-RefusedBlock-clause-err : goal.returns-in-RefusedBlock-clause-err
returns-in-RefusedBlock-clause-err g c =
    let text = ap (λ (n : ℕ). numbered_line (codes "refused block ") n) c.number-in-RefusedBlock.ensures ∙ ap (λ (o : Outcome). outcome_line o) (sym c.in-RefusedBlock.is) in
    on_err_too c.write_numbered-in-RefusedBlock.result _ _
    (λ done. subst (λ (t : List ℕ). WrotePart (g.W.Sink.text c.args.out.now) (g.W.Sink.text c.write_numbered-in-RefusedBlock.new.out) t) text done) c.write_numbered-in-RefusedBlock.ensures.err
