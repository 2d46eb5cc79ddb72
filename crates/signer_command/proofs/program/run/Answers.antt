use Rattle.signer_command.proofs.Printing.{nothing_given_up}
use Rattle.signer_command.proofs.Running.{gave_up_last, ran}
use Rattle.signer_command.proofs.program.run.Goals as goal

pub returns-in-Err-clause-given_up : goal.returns-in-Err-clause-given_up
returns-in-Err-clause-given_up g c = nothing_given_up _ _

pub returns-in-Err-see_committee-clause-given_up : goal.returns-in-Err-see_committee-clause-given_up
returns-in-Err-see_committee-clause-given_up g c = nothing_given_up _ _

pub returns-in-Ok-stand_by-clause-done : goal.returns-in-Ok-stand_by-clause-done
returns-in-Ok-stand_by-clause-done g c =
    ran _ c.end_of.result _ _ _ c.in-Ok-stand_by.closed c.in-Ok-stand_by.ensures.done c.end_of.ensures.ended c.end_of.ensures.ok

pub returns-in-Ok-stand_by-clause-given_up : goal.returns-in-Ok-stand_by-clause-given_up
returns-in-Ok-stand_by-clause-given_up g c =
    gave_up_last c.end_of.result _ _ _ c.in-Ok-stand_by.closed c.in-Ok-stand_by.ensures.done c.end_of.ensures.refused c.end_of.ensures.err
