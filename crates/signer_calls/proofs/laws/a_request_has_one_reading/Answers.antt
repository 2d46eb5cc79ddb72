use Rattle.signer_calls.proofs.OneReading.{one_reading}
use Rattle.signer_calls.proofs.laws.a_request_has_one_reading.Goals as goal

pub returns : goal.returns
returns c rules committee r a b = one_reading rules committee r a b
