use Rattle.std.proofs.Common.{◌≡◌, ◌+◌, ◌*◌, length}
use Rattle.lmots.specs.FourKeys.{chain_end_of}
use Rattle.lmots.specs.Walks.{AreFirst}
use Rattle.lmots.proofs.four_keys.ends_of_four.Given as goal

abbrev pub invariant-walks : goal.invariant-walks
invariant-walks l = (length l.ends ≡ 136) × AreFirst (8 * l.walk) (chain_end_of l.secret.key_id l.secret.seed l.q) l.ends

abbrev pub invariant-lanes : goal.invariant-lanes
invariant-lanes l = (length l.ends ≡ 136) × AreFirst (8 * l.walk + l.l) (chain_end_of l.secret.key_id l.secret.seed l.q) l.ends
