use Rattle.std.proofs.Common.{◌≡◌, ◌+◌, ◌*◌, ◌++◌, length, take}
use Rattle.byteorder.specs.Endian.{big_bytes}
use Rattle.lmots.specs.Chains.{joined}
use Rattle.lmots.specs.Signatures.{ots_signature}
use Rattle.lms_tree.specs.Tree.{path_node}
use Rattle.lms_tree.proofs.signing_tree.SigningTree.sign_at.Given as goal

abbrev pub invariant-loop-level : goal.invariant-loop-level
invariant-loop-level l = (length l.signature ≡ 1452)
    × (take (1132 + 32 * l.level) l.signature ≡ big_bytes 4 l.q ++ ots_signature l.self.key_id l.self.seed l.q l.message
    ++ big_bytes 4 6 ++ joined (path_node l.self.key_id l.self.seed l.q) l.level)
