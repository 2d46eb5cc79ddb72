use Rattle.std.proofs.Common.{ℕ, List, rules, subst, sym}
use Rattle.watch_report.specs.LineTimes.{IsUtcText}
use Rattle.watch_web.proofs.page.page_of.Goals as goal

pub returns : goal.returns
returns c = (
  c.deref.result.now,
  λ below. subst (λ (t : List ℕ). IsUtcText c.args.seen.now.stamped t) (sym c.deref.ensures.value) (c.in_ok-time.ensures below),
  search rules,
)
