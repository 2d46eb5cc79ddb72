use Rattle.std.proofs.Common.{◌≡◌, drop}
use Rattle.watch_state.specs.Digests.{digest_from, no_frames}
use Rattle.watch_state.proofs.logs.log_digest.Given as goal

abbrev pub invariant-loop-frame : goal.invariant-loop-frame
invariant-loop-frame l = digest_from l.digest (drop l.frame-index l.frames) ≡ digest_from no_frames l.frames
