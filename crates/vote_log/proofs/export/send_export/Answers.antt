use Rattle.std.proofs.Common.{◌≡◌, ◌-◌, ℕ, List, length, drop, arith, sym, ap, subst}
use Rattle.std.proofs.lemmas.List.{length-drop, length-take}
use Rattle.log_format.specs.Exports.{asked_for}
use Rattle.base_streams.specs.Streams.{Wrote, WrotePart}
use Rattle.vote_log.proofs.Sending.{all_sent, body_part, head_part, mark_part, on_err}
use Rattle.vote_log.proofs.export.send_export.Goals as goal

pub returns-in_err-send-clause-part : goal.returns-in_err-send-clause-part
returns-in_err-send-clause-part g c =
    let payloads = c.args.journal.now.payloads in
    let range = c.asked_range-from.ensures in
    on_err c.from_residual.result _ (λ bs is. head_part payloads c.args.first c.args.most _ _ (range.same payloads (sym c.count.ensures.value)) _ _ c.in_err-send.ensures.part)

pub returns-in_err-send_frames-clause-part :
    goal.returns-in_err-send_frames-clause-part
returns-in_err-send_frames-clause-part g c =
    let payloads = c.args.journal.now.payloads in
    let range = c.asked_range-from.ensures in
    on_err c.from_residual-in_err-send_frames.result _ (λ bs is.
    body_part payloads c.args.first c.args.most _ _ (range.same payloads (sym c.count.ensures.value)) _ _ _ c.in_ok-send.ensures.ok (c.in_err-send_frames.ensures.part bs is))

pub returns-in_err-send-2-clause-part : goal.returns-in_err-send-2-clause-part
returns-in_err-send-2-clause-part g c =
    let payloads = c.args.journal.now.payloads in
    let range = c.asked_range-from.ensures in
    let from = c.asked_range-from.result.0 in
    let until = c.asked_range-from.result.1 in
    let same = range.same payloads (sym c.count.ensures.value) in
    let fits : until - from ≡ length (asked_for payloads c.args.first c.args.most) =
    omega (arith, range.inside.0, range.inside.1, c.count.ensures.value, ap length same, length-take (until - from) (drop from payloads), length-drop from payloads) in
    on_err c.from_residual-in_err-send-2.result _ (λ bs is.
    mark_part payloads c.args.first c.args.most from until same (until - from) fits _ _ _ _ c.in_ok-send.ensures.ok (c.in_ok-send_frames.ensures.ok bs is)
    (subst (λ (t : List ℕ). WrotePart (g.W.Sink.text c.send_frames.new.sink) (g.W.Sink.text c.send-2.new.sink) t) c.end_mark.ensures c.in_err-send-2.ensures.part))

pub returns-clause-ok : goal.returns-clause-ok
returns-clause-ok g c =
    let payloads = c.args.journal.now.payloads in
    let range = c.asked_range-from.ensures in
    let from = c.asked_range-from.result.0 in
    let until = c.asked_range-from.result.1 in
    let same = range.same payloads (sym c.count.ensures.value) in
    let fits : until - from ≡ length (asked_for payloads c.args.first c.args.most) =
    omega (arith, range.inside.0, range.inside.1, c.count.ensures.value, ap length same, length-take (until - from) (drop from payloads), length-drop from payloads) in
    λ bs is.
    all_sent payloads c.args.first c.args.most from until same (until - from) fits _ _ _ _ c.in_ok-send.ensures.ok (c.in_ok-send_frames.ensures.ok bs is)
    (subst (λ (t : List ℕ). Wrote (g.W.Sink.text c.send_frames.new.sink) (g.W.Sink.text c.send-2.new.sink) t) c.end_mark.ensures c.in_ok-send-2.ensures.ok)
