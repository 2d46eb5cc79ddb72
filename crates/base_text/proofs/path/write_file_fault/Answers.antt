use Rattle.std.proofs.Common.{◌++◌, codes, List, ℕ, subst}
use Rattle.base_streams.specs.Streams.{Wrote, WrotePart}
use Rattle.base_streams.proofs.Writing.{wrote_both}
use Rattle.base_text.specs.Printed.{file_line, printed}
use Rattle.base_text.proofs.Pieces.{on_err, on_err_too, on_ok_too, part_behind, part_of_front}
use Rattle.base_text.proofs.path.write_file_fault.Goals as goal

pub returns-in_err-write_all-clause-err : goal.returns-in_err-write_all-clause-err
returns-in_err-write_all-clause-err g c =
    on_err _ _ (part_of_front _ _ (codes "fault file ") (printed c.args.path.now ++ (c.args.behind.now ++ codes "\n")) c.in_err-write_all.ensures.err)

pub returns-in_err-write_printed-clause-err : goal.returns-in_err-write_printed-clause-err
returns-in_err-write_printed-clause-err g c =
    let part = subst (λ (t : List ℕ). WrotePart (g.W.Sink.text c.write_all.new.out) (g.W.Sink.text c.write_printed.new.out) (printed t))
    c.as_bytes.ensures.value c.in_err-write_printed.ensures.err in
    on_err _ _ (part_behind _ _ _ (codes "fault file ") (printed c.args.path.now ++ (c.args.behind.now ++ codes "\n")) c.in_ok-write_all.ensures.ok
    (part_of_front _ _ (printed c.args.path.now) (c.args.behind.now ++ codes "\n") part))

pub returns-in_err-write_all-2-clause-err : goal.returns-in_err-write_all-2-clause-err
returns-in_err-write_all-2-clause-err g c =
    let path = subst (λ (t : List ℕ). Wrote (g.W.Sink.text c.write_all.new.out) (g.W.Sink.text c.write_printed.new.out) (printed t))
    c.as_bytes.ensures.value c.in_ok-write_printed.ensures.ok in
    let front = wrote_both _ _ _ (codes "fault file ") (printed c.args.path.now) c.in_ok-write_all.ensures.ok path in
    on_err _ _ (part_behind _ _ _ (codes "fault file " ++ printed c.args.path.now) (c.args.behind.now ++ codes "\n") front
    (part_of_front _ _ c.args.behind.now (codes "\n") c.in_err-write_all-2.ensures.err))

pub returns-clause-ok : goal.returns-clause-ok
returns-clause-ok g c =
    let path = subst (λ (t : List ℕ). Wrote (g.W.Sink.text c.write_all.new.out) (g.W.Sink.text c.write_printed.new.out) (printed t))
    c.as_bytes.ensures.value c.in_ok-write_printed.ensures.ok in
    let front = wrote_both _ _ _ (codes "fault file ") (printed c.args.path.now) c.in_ok-write_all.ensures.ok path in
    on_ok_too c.write_all-3.result (Wrote (g.W.Sink.text c.write_all-2.new.out) (g.W.Sink.text c.write_all-3.new.out) (codes "\n"))
    (Wrote (g.W.Sink.text c.args.out.now) (g.W.Sink.text c.write_all-3.new.out) (file_line c.args.path.now c.args.behind.now)) (λ last. wrote_both _ _ _ (codes "fault file " ++ printed c.args.path.now) (c.args.behind.now ++ codes "\n") front
    (wrote_both _ _ _ c.args.behind.now (codes "\n") c.in_ok-write_all-2.ensures.ok last)) c.write_all-3.ensures.ok

pub returns-clause-err : goal.returns-clause-err
returns-clause-err g c =
    let path = subst (λ (t : List ℕ). Wrote (g.W.Sink.text c.write_all.new.out) (g.W.Sink.text c.write_printed.new.out) (printed t))
    c.as_bytes.ensures.value c.in_ok-write_printed.ensures.ok in
    let front = wrote_both _ _ _ (codes "fault file ") (printed c.args.path.now) c.in_ok-write_all.ensures.ok path in
    on_err_too c.write_all-3.result (WrotePart (g.W.Sink.text c.write_all-2.new.out) (g.W.Sink.text c.write_all-3.new.out) (codes "\n"))
    (WrotePart (g.W.Sink.text c.args.out.now) (g.W.Sink.text c.write_all-3.new.out) (file_line c.args.path.now c.args.behind.now)) (λ last. part_behind _ _ _ (codes "fault file " ++ printed c.args.path.now) (c.args.behind.now ++ codes "\n") front
    (part_behind _ _ _ c.args.behind.now (codes "\n") c.in_ok-write_all-2.ensures.ok last)) c.write_all-3.ensures.err
