use Rattle.std.proofs.Common.{length}
use Rattle.log_format.proofs.Fronts.{parts, IsReadSoFar}
use Rattle.log_format.proofs.frames.read_frames.Given as goal

abbrev pub invariant-loop-payload : goal.invariant-loop-payload
invariant-loop-payload l = IsReadSoFar l.fn.text (parts l.frames.items) l.rest

abbrev pub decreases-loop-payload : goal.decreases-loop-payload
decreases-loop-payload l = length l.rest
