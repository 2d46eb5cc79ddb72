use Rattle.test_desk.proofs.overlaps.overlapped.Given as goal

abbrev pub ghosts-overlaps-N-DeskNaming : goal.ghosts-overlaps-N-DeskNaming
ghosts-overlaps-N-DeskNaming g a = record { committee = a.committee.now; replica = 0; opening = a.parts.log.steps }

abbrev pub ghosts-overlaps-N-Ledger : goal.ghosts-overlaps-N-Ledger
ghosts-overlaps-N-Ledger g a = record { name = a.blank.name; parts = a.blank.parts }
