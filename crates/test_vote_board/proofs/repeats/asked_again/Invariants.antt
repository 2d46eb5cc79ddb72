use Rattle.test_vote_board.proofs.repeats.asked_again.Given as goal

abbrev pub ghosts-ask_again : goal.ghosts-ask_again
ghosts-ask_again g a = record { committee = a.committee.now }
