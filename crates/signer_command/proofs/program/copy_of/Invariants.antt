use Rattle.std.proofs.Common.{◌≡◌, take}
use Rattle.signer_command.specs.Ruled.{names_of}
use Rattle.signer_command.proofs.program.copy_of.Given as goal

abbrev pub invariant-loop-name : goal.invariant-loop-name
invariant-loop-name l = names_of l.copy.items ≡ names_of (take l.name-index l.names)
