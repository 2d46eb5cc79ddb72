use Rattle.signer_calls.proofs.OverBodies.{committees_file_is_one}
use Rattle.signer_calls.proofs.laws.a_committees_file_is_read_as_one.Goals as goal

pub returns : goal.returns
returns c body renewal file pair whole short = committees_file_is_one body renewal file pair whole short
