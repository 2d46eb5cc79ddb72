use Rattle.runs_memory.proofs.closing.close_desk.Given as goal

abbrev pub ghosts-closes-N-DeskNaming : goal.ghosts-closes-N-DeskNaming
ghosts-closes-N-DeskNaming g a = record { committee = a.committee.now; replica = 0; opening = a.parts.log.steps }

abbrev pub ghosts-closes-N-Ledger : goal.ghosts-closes-N-Ledger
ghosts-closes-N-Ledger g a = record { name = a.blank.name; parts = a.blank.parts }
