use Rattle.std.proofs.Common.{take}
use Rattle.std.specs.List.{All}
use Rattle.certificates.specs.BlockChecks.{IsSignedEntry}
use Rattle.certificates.proofs.checked_block.first_unsigned.Given as goal

abbrev pub invariant-loop-k : goal.invariant-loop-k
invariant-loop-k g l = All (IsSignedEntry l.committee l.certificate) (take l.k l.entries)
