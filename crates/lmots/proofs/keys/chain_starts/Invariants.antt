use Rattle.std.proofs.Common.{◌≡◌, length}
use Rattle.lmots.specs.Chains.{ots_private}
use Rattle.lmots.specs.Walks.{AreFirst}
use Rattle.lmots.proofs.keys.chain_starts.Given as goal

abbrev pub invariant-loop-i : goal.invariant-loop-i
invariant-loop-i l = (length l.starts ≡ 34) × AreFirst l.i (ots_private l.secret.key_id l.secret.seed l.q) l.starts
