use Rattle.std.proofs.Common.{List, sym, subst}
use Rattle.std.specs.List.{All, Contains}
use Rattle.blocks.specs.Headers.{Header}
use Rattle.ancestry.specs.Known.{all_of}
use Rattle.test_audit.proofs.commit_tests.commits.Goals as goal

pub first_conflict-requires-clause-there : goal.first_conflict-requires-clause-there
first_conflict-requires-clause-there c =
    subst (λ (hs : List Header). All (Contains (all_of c.in_ok-chains.chains)) hs) (sym c.deref.ensures.value) c.in_ok-commits.ensures.known
