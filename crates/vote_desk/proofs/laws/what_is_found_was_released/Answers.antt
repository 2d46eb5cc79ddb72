use Rattle.vote_desk.proofs.Later.{a_found_vote_was_released, a_released_vote_is_found}
use Rattle.vote_desk.proofs.laws.what_is_found_was_released.Goals as goal

pub returns-clause-found : goal.returns-clause-found
returns-clause-found g c = a_released_vote_is_found g.D.Disk g.N.DeskNaming.committee g.N.DeskNaming.replica g.N.DeskNaming.opening

pub returns-clause-none_else : goal.returns-clause-none_else
returns-clause-none_else g c = a_found_vote_was_released g.D.Disk g.N.DeskNaming.committee g.N.DeskNaming.replica
