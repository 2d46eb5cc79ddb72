use Rattle.log_format.proofs.ReadingProofs.{one_reading}
use Rattle.log_format.proofs.laws.a_stream_has_one_reading.Goals as goal

pub returns : goal.returns
returns c held stream failed frames others status other a b = one_reading held stream failed frames others status other a b
