use Rattle.std.proofs.Common.{◌<◌, ◌+◌, [], length, take, sym, subst, ◌∙◌, arith}
use Rattle.std.proofs.lemmas.Bool.{false≢true}
use Rattle.audit_evidence.specs.Gathering.{IsGatheringRefusal}
use Rattle.audit_evidence.specs.Sets.{InSome}
use Rattle.audit_evidence.specs.Logs.{SpellsEntry, FrameHasHeader, FrameNamesVote, HaveEntries}
use Rattle.audit_evidence.proofs.Gatherings.{fault_at, grown_step, handed_on, next_is_entry, next_is_none}
use Rattle.audit_evidence.proofs.gathering.Gathered.add_frames.Goals.{then-branch, else-branch}
use Rattle.audit_evidence.proofs.gathering.Gathered.add_frames.Goals as goal

pub returns-in_err-add_frame-clause-err : goal.returns-in_err-add_frame-clause-err
returns-in_err-add_frame-clause-err g c =
    let fs = c.args.frames.now.frames in
    let below = c.loop-k-test.true in
    handed_on c.from_residual.result (IsGatheringRefusal c.args.self.now (InSome FrameHasHeader fs)) c.in_err-add_frame.field-0.0 c.from_residual.ensures.1
    (fault_at c.args.self.now c.loop-k.self FrameHasHeader _ fs c.loop-k.k c.payload.result.now [] c.in_err-add_frame.field-0.0 (omega (arith, below, c.len-k-end.ensures)) (sym c.payload.ensures) c.loop-k.invariant.grown c.in_err-add_frame.ensures.err)

pub loop-k-preserved : goal.loop-k-preserved
loop-k-preserved g c =
    let fs = c.args.frames.now.frames in
    let k = c.loop-k.k in
    let n = c.loop-k.entries in
    let below = c.loop-k-test.true in
    let l : k < length fs = omega (arith, below, c.len-k-end.ensures) in
    let few = c.loop-k.invariant.few in
    let entry = c.in_ok-add_frame.ensures.entry in
    record {
      grown = grown_step c.args.self.now c.loop-k.self c.add_frame.new.self FrameHasHeader (FrameNamesVote c.args.replica) fs k c.payload.result.now [] l c.payload.ensures
          c.loop-k.invariant.grown c.in_ok-add_frame.ensures.ok;
      entries =
          elim c.if-branch.branch [
            | then-branch w ↦ subst (HaveEntries (take (k + 1) fs)) (sym w.entries-is) (next_is_entry fs k n l c.loop-k.invariant.entries (subst SpellsEntry c.payload.ensures (entry.0 w.if-branch.true)))
            | else-branch w ↦ subst (HaveEntries (take (k + 1) fs)) (sym w.entries-is) (next_is_none fs k n l c.loop-k.invariant.entries (λ is. false≢true (sym w.if-branch.false ∙ entry.1 (subst SpellsEntry (sym c.payload.ensures) is))))
          ];
      few = elim c.if-branch.branch [ then-branch w ↦ omega (arith, w.entries-is, few) | else-branch w ↦ omega (arith, w.entries-is, few) ];
    }
