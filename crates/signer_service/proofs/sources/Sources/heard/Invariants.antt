use Rattle.std.proofs.Common.{◌≡◌, vec_len}
use Rattle.signer_service.proofs.sources.Sources.heard.Given as goal

abbrev pub invariant-loop-heard : goal.invariant-loop-heard
invariant-loop-heard l = vec_len l.all ≡ l.heard-index
