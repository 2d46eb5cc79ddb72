use Rattle.signer_answers.specs.OtherChain.{SpellNone}
use Rattle.signer_answers.proofs.other_chain.first_entry.Given as goal

abbrev pub invariant-loop-k : goal.invariant-loop-k
invariant-loop-k l = SpellNone l.frames.frames l.k
