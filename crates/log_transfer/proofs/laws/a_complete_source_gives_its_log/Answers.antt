use Rattle.log_transfer.proofs.Completeness.{complete_source}
use Rattle.log_transfer.proofs.laws.a_complete_source_gives_its_log.Goals as goal

pub returns : goal.returns
returns g c source tries log frames status is_log complete o = complete_source (g.C.Connector.gives source) tries log frames status is_log complete o
