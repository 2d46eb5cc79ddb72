use Rattle.std.proofs.Common.{◌≡◌, length, take}
use Rattle.std.specs.List.{All}
use Rattle.log_export.proofs.splitting.JournalFront.are_indices.Given as goal

abbrev pub invariant-loop-k : goal.invariant-loop-k
invariant-loop-k l = All (λ payload. length payload ≡ 4) (take l.k l.self.payloads)
