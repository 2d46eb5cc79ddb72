use Rattle.std.proofs.Common.{◌≡◌, ◌-◌, length}
use Rattle.log_server.specs.Serving.{GaveBytes}
use Rattle.log_server.proofs.replying.gather.Given as goal

abbrev pub invariant-loop-byte : goal.invariant-loop-byte
invariant-loop-byte g l = record {
  gave : GaveBytes (g.R.Feed.rest l.fn.feed) (g.R.Feed.rest l.feed) l.request;
  failed : g.R.Feed.failed l.feed ≡ g.R.Feed.failed l.fn.feed;
}

abbrev pub decreases-loop-byte : goal.decreases-loop-byte
decreases-loop-byte g l = 44 - length l.request
