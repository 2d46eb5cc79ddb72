use Rattle.std.proofs.Common.{◌<◌, ◌≤◌, ℕ, List, [], length, subst, arith}
use Rattle.std.proofs.lemmas.List.{take_all}
use Rattle.program_show.specs.Entries.{IsPayloadShown}
use Rattle.program_show.specs.Series.{AddsText, AreOf}
use Rattle.program_show.proofs.Longer.{adds_more, adds_none}
use Rattle.program_show.proofs.log.put_frames.Goals as goal

pub loop-k-init : goal.loop-k-init
loop-k-init c = adds_none (IsPayloadShown c.args.committee.now) c.args.text.now.items c.args.marks.now.items

pub loop-k-preserved : goal.loop-k-preserved
loop-k-preserved c =
    let frames = c.args.frames.now.frames in
    let inside : c.loop-k.k < length frames = omega arith in
    let here = subst (λ (p : List ℕ). AddsText c.loop-k.text.items c.put_payload.new.text.items c.loop-k.marks.items c.put_payload.new.marks.items (IsPayloadShown c.args.committee.now c.loop-k.k p))
    c.payload.ensures c.in_ok-put_payload.ensures in
    adds_more (IsPayloadShown c.args.committee.now) frames c.loop-k.k []
    c.args.text.now.items c.loop-k.text.items c.put_payload.new.text.items c.args.marks.now.items c.loop-k.marks.items c.put_payload.new.marks.items
    inside c.loop-k.invariant here

pub returns : goal.returns
returns c =
    let frames = c.args.frames.now.frames in
    let end : length frames ≤ c.loop-k.k = omega arith in
    subst (λ (ps : List (List ℕ)). AddsText c.args.text.now.items c.loop-k.text.items c.args.marks.now.items c.loop-k.marks.items (AreOf (IsPayloadShown c.args.committee.now) 0 ps))
    (take_all c.loop-k.k frames end) c.loop-k.invariant
