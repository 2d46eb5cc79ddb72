use Rattle.blocks.proofs.Restarts.{vote_rule_by_parent, raise_by_parent, lock_is_by_parent}
use Rattle.blocks.proofs.laws.rules_look_at_the_parent.Goals as goal

pub returns : goal.returns
returns c = record { vote = vote_rule_by_parent; raise = raise_by_parent; lock = lock_is_by_parent }
