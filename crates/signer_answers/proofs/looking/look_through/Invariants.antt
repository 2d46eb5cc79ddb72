use Rattle.signer_answers.specs.Lookings.{ShowNone}
use Rattle.signer_answers.proofs.looking.look_through.Given as goal

abbrev pub invariant-loop-k : goal.invariant-loop-k
invariant-loop-k g l = ShowNone g.D.Disk g.N.DeskNaming.committee g.N.DeskNaming.replica g.N.DeskNaming.opening l.owner l.frames.frames l.from l.k
