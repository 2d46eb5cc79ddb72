use Rattle.std.proofs.Common.{◌∙◌, ap}
use Rattle.std.specs.Option.{option_flatten}
use Rattle.parallel_verify.proofs.Remembered.{recalled}
use Rattle.parallel_verify.proofs.memo.Memo.recall.Goals as goal

pub returns-clause-answer : goal.returns-clause-answer
returns-clause-answer g c =
    recalled g.N.BoardNaming.committee c.self.inside.posted.entries c.args.vote.now c.flatten.result c.self.invariant (c.flatten.ensures ∙ ap option_flatten (c.copied.ensures ∙ c.get.ensures.value))
