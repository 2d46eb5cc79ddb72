use Rattle.std.proofs.Common.{◌≡◌, ◌++◌, take}
use Rattle.log_request.specs.Gathering.{first_request}
use Rattle.log_request.proofs.gathering.RequestBytes.take.Given as goal

abbrev pub invariant-loop-byte : goal.invariant-loop-byte
invariant-loop-byte l = l.self ≡ first_request (l.initial.self ++ take l.byte-index l.piece)
