use Rattle.log_transfer.proofs.Completeness.{whole_is_complete}
use Rattle.log_transfer.proofs.laws.a_whole_export_is_complete.Goals as goal

pub returns : goal.returns
returns c tries log later is_log visits run = whole_is_complete tries log later is_log visits run
