use Rattle.signer_command.proofs.stay.stay_once.Given as goal

abbrev pub ghosts-stay-N-DeskNaming : goal.ghosts-stay-N-DeskNaming
ghosts-stay-N-DeskNaming g a = record { committee = a.room.now.committee.now; replica = a.room.now.words.now.replica; opening = a.parts.log.steps }

abbrev pub ghosts-stay-N-Ledger : goal.ghosts-stay-N-Ledger
ghosts-stay-N-Ledger g a = record { name = a.blank.name; parts = a.blank.parts }
