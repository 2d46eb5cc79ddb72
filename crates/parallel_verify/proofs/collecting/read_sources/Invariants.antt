use Rattle.parallel_verify.proofs.collecting.read_sources.Given as goal

-- the board is named by the committee, and the numbers by their list
abbrev pub ghosts-read_on-N-BoardNaming : goal.ghosts-read_on-N-BoardNaming
ghosts-read_on-N-BoardNaming g a = record { committee = a.committee.now }

abbrev pub ghosts-read_on-L-ListNaming : goal.ghosts-read_on-L-ListNaming
ghosts-read_on-L-ListNaming g a = record { list = a.list }
