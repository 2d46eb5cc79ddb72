use Rattle.std.proofs.Common.{take}
use Rattle.program_follow.specs.ProofFiles.{Put}
use Rattle.program_follow.proofs.proving.put_all.Given as goal

abbrev pub invariant-loop-k : goal.invariant-loop-k
invariant-loop-k g l = Put (g.P.ProofPlace.files l.fn.place) (g.P.ProofPlace.files l.place) (take l.k l.files)
