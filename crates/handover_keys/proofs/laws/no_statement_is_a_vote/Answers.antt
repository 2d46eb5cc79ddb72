use Rattle.handover_keys.proofs.EndorsementLaws.{no_vote, nothing_read}
use Rattle.handover_keys.proofs.laws.no_statement_is_a_vote.Goals as goal

pub returns-clause-written : goal.returns-clause-written
returns-clause-written c = no_vote

pub returns-clause-read : goal.returns-clause-read
returns-clause-read c = nothing_read
