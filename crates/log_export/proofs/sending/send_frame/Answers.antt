use Rattle.std.proofs.Common.{◌≡◌, ◌++◌, List, ℕ, length, rules, subst}
use Rattle.byteorder.specs.Endian.{big_bytes}
use Rattle.base_streams.specs.Streams.{Wrote, WrotePart}
use Rattle.log_format.specs.Exports.{frame_text}
use Rattle.log_export.proofs.Parts.{on_err, on_err_too, part_behind, part_of_front}
use Rattle.log_export.proofs.sending.send_frame.Goals as goal

pub returns-in_err-write_all-clause-err : goal.returns-in_err-write_all-clause-err
unfolding frame_text
returns-in_err-write_all-clause-err g c =
    let head : c.to_be_bytes.result ≡ big_bytes 4 (length c.args.payload.now) = search rules in
    let part = subst (λ (t : List ℕ). WrotePart (g.W.Sink.text c.args.sink.now) (g.W.Sink.text c.write_all.new.out) t) head c.in_err-write_all.ensures.err in
    on_err c.from_residual.result _ (part_of_front _ _ (big_bytes 4 (length c.args.payload.now)) c.args.payload.now part)

pub returns-clause-err : goal.returns-clause-err
unfolding frame_text
returns-clause-err g c =
    let head : c.to_be_bytes.result ≡ big_bytes 4 (length c.args.payload.now) = search rules in
    let wrote = subst (λ (t : List ℕ). Wrote (g.W.Sink.text c.args.sink.now) (g.W.Sink.text c.write_all.new.out) t) head c.in_ok-write_all.ensures.ok in
    on_err_too c.write_all-2.result (WrotePart (g.W.Sink.text c.write_all.new.out) (g.W.Sink.text c.write_all-2.new.out) c.args.payload.now)
    (WrotePart (g.W.Sink.text c.args.sink.now) (g.W.Sink.text c.write_all-2.new.out) (frame_text c.args.payload.now)) (λ last.
    part_behind _ _ _ (big_bytes 4 (length c.args.payload.now)) c.args.payload.now wrote last) c.write_all-2.ensures.err
