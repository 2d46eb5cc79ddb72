use Rattle.std.proofs.Common.{◌≡◌, ◌++◌, List, ℕ, rules, subst}
use Rattle.byteorder.specs.Endian.{big_bytes}
use Rattle.base_streams.specs.Streams.{WrotePart}
use Rattle.log_format.specs.Exports.{end_mark}
use Rattle.log_export.proofs.Parts.{on_err, on_err_too, part_behind, part_of_front}
use Rattle.log_export.proofs.sending.end_export.Goals as goal

pub returns-in_err-write_all-clause-err : goal.returns-in_err-write_all-clause-err
unfolding end_mark
returns-in_err-write_all-clause-err g c =
    on_err c.from_residual.result _ (part_of_front _ _ (big_bytes 4 0) (big_bytes 4 c.args.count) c.in_err-write_all.ensures.err)

pub returns-clause-err : goal.returns-clause-err
unfolding end_mark
returns-clause-err g c =
    let tail : c.to_be_bytes.result ≡ big_bytes 4 c.args.count = search rules in
    on_err_too c.write_all-2.result (WrotePart (g.W.Sink.text c.write_all.new.out) (g.W.Sink.text c.write_all-2.new.out) c.to_be_bytes.result)
    (WrotePart (g.W.Sink.text c.args.sink.now) (g.W.Sink.text c.write_all-2.new.out) (end_mark c.args.count)) (λ last.
    part_behind _ _ _ (big_bytes 4 0) (big_bytes 4 c.args.count) c.in_ok-write_all.ensures.ok
    (subst (λ (t : List ℕ). WrotePart (g.W.Sink.text c.write_all.new.out) (g.W.Sink.text c.write_all-2.new.out) t) tail last)) c.write_all-2.ensures.err
