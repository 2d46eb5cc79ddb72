use Rattle.std.proofs.Common.{List, ℕ, subst, arith, rules}
use Rattle.std.proofs.lemmas.List.{take_all}
use Rattle.base_streams.specs.Streams.{Wrote, WrotePart}
use Rattle.log_format.specs.Exports.{frame_text}
use Rattle.log_export.specs.Sent.{cut_text}
use Rattle.log_export.proofs.Parts.{frames_part, head_part, mark_part, on_err, sent_part}
use Rattle.log_export.proofs.sending.send_export.Goals as goal

pub returns-in_err-begin_export-clause-err : goal.returns-in_err-begin_export-clause-err
returns-in_err-begin_export-clause-err g c =
    on_err c.from_residual.result _ (sent_part _ _ c.args.front.now (head_part _ _ c.args.front.now.payloads c.in_err-begin_export.ensures.err))

pub returns-in_err-send_frame-clause-err : goal.returns-in_err-send_frame-clause-err
returns-in_err-send_frame-clause-err g c =
    let part = subst (λ (t : List ℕ). WrotePart (g.W.Sink.text c.loop-k.sink) (g.W.Sink.text c.send_frame.new.sink) (frame_text t))
    c.payload.ensures.value c.in_err-send_frame.ensures.err in
    on_err c.from_residual-in_err-send_frame.result _ (sent_part _ _ c.args.front.now
    (frames_part _ _ _ c.args.front.now.payloads c.loop-k.k (omega arith) c.loop-k.invariant.wrote part))

pub returns-in_err-end_export-clause-err : goal.returns-in_err-end_export-clause-err
returns-in_err-end_export-clause-err g c =
    let payloads = c.args.front.now.payloads in
    let all = take_all c.loop-k.k payloads (omega arith) in
    let wrote = subst (λ (l : List (List ℕ)). Wrote (g.W.Sink.text c.args.sink.now) (g.W.Sink.text c.loop-k.sink) (cut_text l)) all c.loop-k.invariant.wrote in
    on_err c.from_residual-in_err-end_export.result _ (mark_part _ _ _ c.args.front.now _ (search rules) (search rules) wrote c.in_err-end_export.ensures.err)
