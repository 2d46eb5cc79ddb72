use Rattle.test_vote_board.proofs.overlaps.overlapped.Given as goal

abbrev pub ghosts-ask_both : goal.ghosts-ask_both
ghosts-ask_both g a = record { committee = a.committee.now }
