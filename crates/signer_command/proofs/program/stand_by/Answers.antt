use Rattle.signer_command.proofs.Printing.{nothing_given_up, nothing_printed}
use Rattle.signer_command.proofs.program.stand_by.Goals as goal

pub returns-in-Err-clause-given_up : goal.returns-in-Err-clause-given_up
returns-in-Err-clause-given_up g c = nothing_given_up _ _

pub returns-in-Err-text_of-clause-given_up : goal.returns-in-Err-text_of-clause-given_up
returns-in-Err-text_of-clause-given_up g c = nothing_printed _
