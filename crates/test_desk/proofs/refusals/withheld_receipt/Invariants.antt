use Rattle.test_desk.proofs.refusals.withheld_receipt.Given as goal

abbrev pub ghosts-withholds-N-DeskNaming : goal.ghosts-withholds-N-DeskNaming
ghosts-withholds-N-DeskNaming g a = record { committee = a.committee.now; replica = 0; opening = a.parts.log.steps }

abbrev pub ghosts-withholds-N-Ledger : goal.ghosts-withholds-N-Ledger
ghosts-withholds-N-Ledger g a = record { name = a.blank.name; parts = a.blank.parts }
