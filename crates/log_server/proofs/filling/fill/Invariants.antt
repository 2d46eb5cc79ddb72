use Rattle.std.proofs.Common.{length, take, ◌-◌, ◌≡◌, ◌≤◌}
use Rattle.log_server.specs.Serving.{GaveBytes}
use Rattle.log_server.proofs.filling.fill.Given as goal

abbrev pub invariant-loop-done : goal.invariant-loop-done
invariant-loop-done g l = record {
  within : l.done ≤ length l.buffer;
  size : length l.buffer ≡ length l.fn.buffer;
  gave : GaveBytes (g.R.Feed.rest l.fn.feed) (g.R.Feed.rest l.feed) (take l.done l.buffer);
  failed : g.R.Feed.failed l.feed ≡ g.R.Feed.failed l.fn.feed;
}

abbrev pub decreases-loop-done : goal.decreases-loop-done
decreases-loop-done g l = length l.initial.buffer - l.done
