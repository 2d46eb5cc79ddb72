use Rattle.signer_calls.specs.Queries.{IsOneMore}
use Rattle.signer_calls.proofs.Parameters.{found_behind, found_uncut, none_in_front}
use Rattle.signer_calls.proofs.query.two_in.Goals as goal

pub returns-in_default : goal.returns-in_default
returns-in_default c = found_uncut IsOneMore c.args.text.now c.args.before c.one_in.result c.in_default.ensures.none c.one_in.ensures

pub returns-in_err-one : goal.returns-in_err-one
returns-in_err-one c =
    let parts = c.in-Some.ensures.some in
    rw c.from_residual.ensures (none_in_front IsOneMore c.args.text.now _ _ c.args.before parts.0 parts.1 c.in_err-one.ensures)

pub returns : goal.returns
returns c =
    let parts = c.in-Some.ensures.some in
    found_behind IsOneMore c.args.text.now _ _ c.args.before c.in_ok-one.one c.one_in-3.result parts.0 parts.1 c.in_ok-one.ensures c.one_in-3.ensures
