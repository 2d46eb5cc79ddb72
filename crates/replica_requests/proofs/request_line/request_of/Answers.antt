use Rattle.std.proofs.lemmas.Result.{IfOk-weaker}
use Rattle.replica_requests.proofs.Asking.{of_digits}
use Rattle.replica_requests.proofs.request_line.request_of.Goals as goal

pub returns-in-Some : goal.returns-in-Some
returns-in-Some c =
    IfOk-weaker c.block_request.result _ _ (λ request what. of_digits c.args.line.now c.in-Some.digits.now request c.in-Some.ensures what) c.block_request.ensures
