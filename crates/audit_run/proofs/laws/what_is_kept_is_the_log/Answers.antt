use Rattle.audit_run.proofs.Appending.{kept_whole}
use Rattle.audit_run.proofs.laws.what_is_kept_is_the_log.Goals as goal

pub returns : goal.returns
returns c before s t l begun none written sound = kept_whole before s t l begun none sound written
