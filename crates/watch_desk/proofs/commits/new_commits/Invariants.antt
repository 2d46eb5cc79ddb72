use Rattle.std.proofs.Common.{◌≡◌, take}
use Rattle.watch_desk.specs.News.{new_commits}
use Rattle.watch_desk.proofs.commits.new_commits.Given as goal

abbrev pub invariant-loop-commit : goal.invariant-loop-commit
invariant-loop-commit l = l.new.items ≡ new_commits l.told (take l.commit-index l.commits)
