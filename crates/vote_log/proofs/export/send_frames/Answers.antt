use Rattle.std.proofs.Common.{◌<◌, ◌≤◌, List, ℕ, length, rules, arith, subst, ◌∙◌}
use Rattle.stable_log.proofs.Told.{if_some}
use Rattle.base_streams.specs.Streams.{Wrote, WrotePart}
use Rattle.vote_log.specs.LogExport.{frame_at}
use Rattle.vote_log.proofs.Sending.{frames_more, frames_part, on_err}
use Rattle.vote_log.proofs.export.send_frames.Goals as goal

pub returns-in_err-send_frame-clause-part :
    goal.returns-in_err-send_frame-clause-part
returns-in_err-send_frame-clause-part g c =
    let inv = c.loop-k.invariant in
    let le : c.args.from ≤ c.loop-k.k = omega arith in
    let below : c.loop-k.k < c.args.until = omega arith in
    on_err c.from_residual.result _ (λ bs is.
    let part = if_some (g.D.Disk.bytes c.loop-k.journal.disk) _ bs c.in_err-send_frame.ensures.part (inv.unwritten.same ∙ is) in
    frames_part _ _ _ c.args.journal.now.payloads c.args.from c.loop-k.k c.args.until le below c.requires.inside.2 (inv.sent bs is)
    (subst (λ (l : List (List ℕ)). WrotePart (g.W.Sink.text c.loop-k.sink) (g.W.Sink.text c.send_frame.new.sink) (frame_at l c.loop-k.k)) inv.payloads part))

pub loop-k-preserved : goal.loop-k-preserved
loop-k-preserved g c =
    let inv = c.loop-k.invariant in
    let one = c.in_ok-send_frame.ensures in
    let le : c.args.from ≤ c.loop-k.k = omega arith in
    let below : c.loop-k.k < length c.args.journal.now.payloads = omega (arith, c.requires.inside.2) in
    record {
      room = one.room;
      payloads = one.same.0 ∙ inv.payloads;
      stopped = one.same.1 ∙ inv.stopped;
      unwritten = search rules;
      disk = one.cause.0 ∙ inv.disk;
      sink = one.cause.1 ∙ inv.sink;
      sent = λ bs is.
          let wrote = if_some (g.D.Disk.bytes c.loop-k.journal.disk) _ bs one.ok (inv.unwritten.same ∙ is) in
          frames_more _ _ _ c.args.journal.now.payloads c.args.from c.loop-k.k le below (inv.sent bs is)
          (subst (λ (l : List (List ℕ)). Wrote (g.W.Sink.text c.loop-k.sink) (g.W.Sink.text c.send_frame.new.sink) (frame_at l c.loop-k.k)) inv.payloads wrote);
    }
