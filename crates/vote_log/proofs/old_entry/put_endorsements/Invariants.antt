use Rattle.std.proofs.Common.{◌≡◌, ◌++◌}
use Rattle.vote_log.specs.Renewing.{renewed_endorsements}
use Rattle.vote_log.proofs.old_entry.put_endorsements.Given as goal

abbrev pub invariant-loop-k : goal.invariant-loop-k
invariant-loop-k l = l.text.items ≡ l.fn.text.items ++ renewed_endorsements l.old l.k
