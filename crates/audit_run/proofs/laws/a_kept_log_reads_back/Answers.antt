use Rattle.audit_run.specs.Kept.{kept_text}
use Rattle.audit_run.proofs.Readings.{kept_reading}
use Rattle.audit_run.proofs.laws.a_kept_log_reads_back.Goals as goal

pub returns : goal.returns
unfolding kept_text
returns c l has = kept_reading l.frames l.status has.sizes has.few
