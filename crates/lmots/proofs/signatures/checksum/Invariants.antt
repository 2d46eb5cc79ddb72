use Rattle.std.proofs.Common.{◌≡◌, ◌≤◌, ◌*◌, take}
use Rattle.lmots.specs.Signatures.{checksum}
use Rattle.lmots.proofs.signatures.checksum.Given as goal

abbrev pub invariant-loop-byte : goal.invariant-loop-byte
invariant-loop-byte l = (l.steps_left ≡ checksum (take l.byte-index l.hash)) × (l.steps_left ≤ 255 * l.byte-index)
