use Rattle.std.proofs.Common.{◌++◌, codes, List, ℕ, subst}
use Rattle.base_streams.specs.Streams.{Wrote, WrotePart}
use Rattle.base_streams.proofs.Writing.{wrote_both}
use Rattle.base_text.specs.Printed.{printed}
use Rattle.base_text.proofs.Pieces.{on_err, on_err_too, on_ok_too, part_behind, part_of_front}
use Rattle.program_parts.specs.FaultLines.{wrong_word_line}
use Rattle.program_parts.proofs.wrong_word.write_wrong_word.Goals as goal

pub returns-in_err-write_all-clause-err : goal.returns-in_err-write_all-clause-err
returns-in_err-write_all-clause-err g c =
    on_err _ _ (part_of_front _ _ (codes "fault usage ") (printed c.args.word.now ++ codes "\n") c.in_err-write_all.ensures.err)

pub returns-in_err-write_printed-clause-err : goal.returns-in_err-write_printed-clause-err
returns-in_err-write_printed-clause-err g c =
    let part = subst (λ (t : List ℕ). WrotePart (g.W.Sink.text c.write_all.new.out) (g.W.Sink.text c.write_printed.new.out) (printed t))
    c.as_bytes.ensures.value c.in_err-write_printed.ensures.err in
    on_err _ _ (part_behind _ _ _ (codes "fault usage ") (printed c.args.word.now ++ codes "\n") c.in_ok-write_all.ensures.ok
    (part_of_front _ _ (printed c.args.word.now) (codes "\n") part))

pub returns-clause-ok : goal.returns-clause-ok
returns-clause-ok g c =
    let word = subst (λ (t : List ℕ). Wrote (g.W.Sink.text c.write_all.new.out) (g.W.Sink.text c.write_printed.new.out) (printed t))
    c.as_bytes.ensures.value c.in_ok-write_printed.ensures.ok in
    on_ok_too c.write_all-2.result (Wrote (g.W.Sink.text c.write_printed.new.out) (g.W.Sink.text c.write_all-2.new.out) (codes "\n"))
    (Wrote (g.W.Sink.text c.args.out.now) (g.W.Sink.text c.write_all-2.new.out) (wrong_word_line c.args.word.now)) (λ last. wrote_both _ _ _ (codes "fault usage ") (printed c.args.word.now ++ codes "\n") c.in_ok-write_all.ensures.ok
    (wrote_both _ _ _ (printed c.args.word.now) (codes "\n") word last)) c.write_all-2.ensures.ok

pub returns-clause-err : goal.returns-clause-err
returns-clause-err g c =
    let word = subst (λ (t : List ℕ). Wrote (g.W.Sink.text c.write_all.new.out) (g.W.Sink.text c.write_printed.new.out) (printed t))
    c.as_bytes.ensures.value c.in_ok-write_printed.ensures.ok in
    on_err_too c.write_all-2.result (WrotePart (g.W.Sink.text c.write_printed.new.out) (g.W.Sink.text c.write_all-2.new.out) (codes "\n"))
    (WrotePart (g.W.Sink.text c.args.out.now) (g.W.Sink.text c.write_all-2.new.out) (wrong_word_line c.args.word.now)) (λ last. part_behind _ _ _ (codes "fault usage ") (printed c.args.word.now ++ codes "\n") c.in_ok-write_all.ensures.ok
    (part_behind _ _ _ (printed c.args.word.now) (codes "\n") word last)) c.write_all-2.ensures.err
