use Rattle.test_signing_service.proofs.calls.told.Given as goal

abbrev pub ghosts-sent-N-DeskNaming : goal.ghosts-sent-N-DeskNaming
ghosts-sent-N-DeskNaming g a = record { committee = a.scene.now.committee.now; replica = a.scene.now.replica; opening = a.parts.log.steps }

abbrev pub ghosts-sent-N-Ledger : goal.ghosts-sent-N-Ledger
ghosts-sent-N-Ledger g a = record { name = a.blank.name; parts = a.blank.parts }
