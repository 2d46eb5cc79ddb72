use Rattle.std.proofs.Common.{ℕ, List, Option, length}
use Rattle.signer_command.specs.WrongWords.{IsFirstWrong}
use Rattle.signer_command.specs.declared.wrong_words.Awaited.TheVariants.{Word}
use Rattle.signer_command.specs.declared.wrong_words.Named.TheVariants.{Committee}
use Rattle.signer_command.proofs.wrong_words.first_wrong.Given as goal

abbrev pub invariant-loop-left : goal.invariant-loop-left
invariant-loop-left l = (wrong : Option (List ℕ)) → IsFirstWrong l.awaited l.left wrong → IsFirstWrong (Word Committee) l.words wrong

abbrev pub decreases-loop-left : goal.decreases-loop-left
decreases-loop-left l = length l.left
