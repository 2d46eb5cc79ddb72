use Rattle.std.proofs.Common.{refl, arith}
use Rattle.log_request.proofs.StepRequestBytes.{came}
use Rattle.log_request.proofs.step.StepBytes.take.Goals as goal

pub returns : goal.returns
returns c = rw c.self.view_is at (came c.self.inside.bytes c.put.new.bytes c.args.piece.now _ c.self.inside.have c.min-n.result (omega arith) (omega arith) (omega arith) refl c.put.ensures.written)
