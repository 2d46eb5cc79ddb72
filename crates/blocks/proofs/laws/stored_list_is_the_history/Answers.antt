use Rattle.blocks.proofs.Restarts.{stored_is_legal, votes_are_stored, replay_is_state, lock_never_falls, vote_view_covers}
use Rattle.blocks.proofs.laws.stored_list_is_the_history.Goals as goal

pub returns : goal.returns
returns c = record { legal = stored_is_legal; replayed = replay_is_state; votes = votes_are_stored; rises = lock_never_falls; covers = vote_view_covers }
