use Rattle.replica_requests.proofs.OneLineReading.{one_reading}
use Rattle.replica_requests.proofs.laws.a_text_has_one_reading.Goals as goal

pub returns : goal.returns
returns c = one_reading
