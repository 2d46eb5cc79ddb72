use Rattle.log_format.proofs.ReadingProofs.{reads_back, too_long}
use Rattle.log_format.proofs.laws.an_export_reads_back.Goals as goal

pub returns-clause-whole : goal.returns-clause-whole
returns-clause-whole c held first most payloads failed sizes few = reads_back held first most payloads failed sizes few

pub returns-clause-too_long : goal.returns-clause-too_long
returns-clause-too_long c held first most payloads failed sizes many = too_long held first most payloads failed sizes many
