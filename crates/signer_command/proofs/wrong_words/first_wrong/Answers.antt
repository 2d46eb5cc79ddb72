use Rattle.std.proofs.Common.{rules}
use Rattle.signer_command.proofs.FirstWrong.{goes_on, is_wrong, none_wrong}
use Rattle.signer_command.proofs.wrong_words.first_wrong.Goals as goal

pub returns-then-not-is_good : goal.returns-then-not-is_good
returns-then-not-is_good c =
    c.loop-left.invariant _ (is_wrong _ c.loop-left.left.now c.word-item.result _ (search rules) c.word-item.is c.as_str-then-not-is_good.ensures.value (search rules))

pub loop-left-preserved : goal.loop-left-preserved
loop-left-preserved c = λ wrong rest. c.loop-left.invariant wrong
    (goes_on c.loop-left.awaited _ c.loop-left.left.now c.word-item.result c.as_str.result.now wrong (search rules) c.word-item.is c.as_str.ensures.value (search rules) (search rules) rest)

pub returns : goal.returns
returns c = c.loop-left.invariant _ (none_wrong _ _ (search rules))
