use Rattle.std.proofs.Common.{◌∙◌, ◌++◌, refl, sym, ap, append_assoc, rules}
use Rattle.std.proofs.lemmas.Slice.Zip.{all_zipped_more}
use Rattle.audit_evidence.proofs.Gatherings.{handed_on}
use Rattle.parallel_verify.specs.Readings.{IsRefusedAmong}
use Rattle.parallel_verify.proofs.Outcomes.{refused_among}
use Rattle.parallel_verify.proofs.gathering.parts_and_observers.Goals as goal

pub returns-in_err-part-clause-refused : goal.returns-in_err-part-clause-refused
returns-in_err-part-clause-refused g c =
    let s = c.in-Some.ensures.steps in
    let e = c.in_err-part.field-0.0 in
    let inv = c.loop-part.invariant in
    let was = c.in_err-part.was in
    handed_on c.from_residual.result (IsRefusedAmong c.args.outs.items) e c.from_residual.ensures.1
    (refused_among c.args.outs.items c.loop-part.yielded c.next.new.self.rest.items (c.in-Some.part, c.in-Some.observer) e (ap (λ xs. c.loop-part.yielded ++ xs) (sym s.0) ∙ inv.all ∙ search rules) was)

pub loop-part-preserved : goal.loop-part-preserved
loop-part-preserved g c =
    let s = c.in-Some.ensures.steps in
    let inv = c.loop-part.invariant in
    let put = c.in_ok-put.ensures in
    record {
      all = search (rules, append_assoc);
      parts = rw put.0 (all_zipped_more _ c.loop-part.yielded c.loop-part.parts.items _ c.in_ok-part.field-0 inv.parts c.in_ok-part.was);
      observers = rw put.1 (all_zipped_more _ c.loop-part.yielded c.loop-part.observers.items _ c.in-Some.observer inv.observers refl);
    }
