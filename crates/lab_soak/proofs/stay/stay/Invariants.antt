use Rattle.lab_soak.proofs.stay.stay.Given as goal

abbrev pub ghosts-works-N-DeskNaming : goal.ghosts-works-N-DeskNaming
ghosts-works-N-DeskNaming g a = record { committee = a.site.committee.now; replica = 0; opening = a.parts.log.steps }

abbrev pub ghosts-works-N-Ledger : goal.ghosts-works-N-Ledger
ghosts-works-N-Ledger g a = record { name = a.blank.name; parts = a.blank.parts }
