use Rattle.std.proofs.lemmas.Bool.{iff_false}
use Rattle.culprit_search.proofs.Screens.{none_breaks}
use Rattle.culprit_search.proofs.screen.may_break.Goals as goal

pub returns-else-may_be_double : goal.returns-else-may_be_double
returns-else-may_be_double c = λ none. none_breaks c.args.evidence.now c.args.own.now c.args.w.now c.args.locks.greatest c.requires.locks (c.may_be_double.ensures c.if-may_be_double.false) (iff_false c.is_on_parent_below.ensures none)
