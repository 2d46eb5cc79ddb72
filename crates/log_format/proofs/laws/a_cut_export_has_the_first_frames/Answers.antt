use Rattle.log_format.proofs.ReadingProofs.{cut_reading}
use Rattle.log_format.proofs.laws.a_cut_export_has_the_first_frames.Goals as goal

pub returns : goal.returns
returns c held first most payloads failed came lost frames status sizes few split reading = cut_reading held first most payloads failed came lost frames status sizes few split reading
