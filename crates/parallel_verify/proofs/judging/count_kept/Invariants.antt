use Rattle.std.proofs.Common.{◌≡◌, ◌≤◌, ◌↔◌, take}
use Rattle.parallel_verify.specs.JudgedSources.{AreAllKept, AreCounted, IsKept}
use Rattle.parallel_verify.proofs.judging.count_kept.Given as goal

abbrev pub invariant-loop-vote : goal.invariant-loop-vote
invariant-loop-vote l = record {
  few : l.count ≤ l.vote-index;
  counted : AreCounted (IsKept (take l.vote-index l.votes) l.bad) l.count;
  all : (l.count ≡ l.vote-index) ↔ AreAllKept (take l.vote-index l.votes) l.bad;
}
