use Rattle.std.proofs.Common.{◌≡◌, vec_len}
use Rattle.signer_service.proofs.sources.Sources.new.Given as goal

abbrev pub invariant-loop : goal.invariant-loop
invariant-loop l = vec_len l.heard ≡ l.counter
