use Rattle.test_desk.proofs.refusals.refused.Given as goal

abbrev pub ghosts-starts-N-DeskNaming : goal.ghosts-starts-N-DeskNaming
ghosts-starts-N-DeskNaming g a = record { committee = a.committee.now; replica = a.replica; opening = a.parts.log.steps }

abbrev pub ghosts-starts-N-Ledger : goal.ghosts-starts-N-Ledger
ghosts-starts-N-Ledger g a = record { name = a.blank.name; parts = a.blank.parts }
