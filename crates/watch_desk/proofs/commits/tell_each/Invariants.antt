use Rattle.std.proofs.Common.{◌≡◌, ◌++◌, map, take}
use Rattle.watch_desk.specs.declared.news.News.TheVariants as told
use Rattle.watch_desk.proofs.commits.tell_each.Given as goal

abbrev pub invariant-loop-commit : goal.invariant-loop-commit
invariant-loop-commit l = l.news.items ≡ l.initial.news.items ++ map (λ c. told.Commit c) (take l.commit-index l.commits)
