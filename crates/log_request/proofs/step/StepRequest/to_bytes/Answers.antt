use Rattle.std.proofs.Common.{arith}
use Rattle.log_request.specs.StepRequests.{piece_number, step_request_text}
use Rattle.log_request.proofs.StepRequestBytes.{three_parts}
use Rattle.log_request.proofs.step.StepRequest.to_bytes.Goals as goal

pub returns-clause-text : goal.returns-clause-text
unfolding step_request_text
returns-clause-text c =
    three_parts _ c.args.self.chain c.put.new.bytes c.put-2.new.bytes c.put-3.new.bytes (piece_number c.args.self.piece) (omega arith) (omega arith)
    c.put.ensures.written c.put-2.ensures.written (rw c.number.ensures at c.put-3.ensures.written)
