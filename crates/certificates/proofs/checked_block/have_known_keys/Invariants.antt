use Rattle.std.proofs.Common.{◌<◌, take}
use Rattle.std.specs.List.{All}
use Rattle.blocks.specs.Committees.{keys_of}
use Rattle.certificates.proofs.checked_block.have_known_keys.Given as goal

abbrev pub invariant-loop-entry : goal.invariant-loop-entry
invariant-loop-entry l = All (λ e. e.key < keys_of l.committee e.replica) (take l.entry-index l.entry-items)
