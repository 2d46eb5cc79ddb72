use Rattle.std.proofs.Common.{◌≤◌, take}
use Rattle.audit_evidence.specs.Gathering.{Grows}
use Rattle.audit_evidence.specs.Sets.{InSome}
use Rattle.audit_evidence.specs.Logs.{FrameHasHeader, FrameNamesVote, HaveEntries}
use Rattle.audit_evidence.proofs.gathering.Gathered.add_frames.Given as goal

abbrev pub invariant-loop-k : goal.invariant-loop-k
invariant-loop-k g l = record {
  grown : Grows l.fn.self l.self (InSome FrameHasHeader (take l.k l.frames.frames)) (InSome (FrameNamesVote l.replica) (take l.k l.frames.frames));
  entries : HaveEntries (take l.k l.frames.frames) l.entries;
  few : l.entries ≤ l.k;
}
