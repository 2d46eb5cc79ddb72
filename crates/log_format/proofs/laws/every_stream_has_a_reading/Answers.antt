use Rattle.log_format.proofs.ReadingProofs.{a_reading}
use Rattle.log_format.proofs.laws.every_stream_has_a_reading.Goals as goal

pub returns : goal.returns
returns c held stream failed fit = a_reading held stream failed fit
