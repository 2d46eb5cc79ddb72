use Rattle.std.proofs.Common.{◌≡◌, ◌++◌, take}
use Rattle.watch_desk.specs.News.{culprits_told}
use Rattle.watch_desk.proofs.told.tell_culprits.Given as goal

abbrev pub invariant-loop-verdict : goal.invariant-loop-verdict
invariant-loop-verdict l = l.news.items ≡ l.initial.news.items ++ culprits_told (take l.verdict-index l.found)
