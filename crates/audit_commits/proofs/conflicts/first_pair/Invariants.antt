use Rattle.std.proofs.Common.{length}
use Rattle.std.specs.List.{All, AllPairs, Contains}
use Rattle.blocks.specs.Headers.{Header}
use Rattle.ancestry.specs.Known.{all_of}
use Rattle.audit_commits.specs.Commits.{IsLowerBlock}
use Rattle.audit_commits.specs.Pairs.{Agree, AreFirstIn}
use Rattle.audit_commits.proofs.conflicts.first_pair.Given as goal

abbrev pub invariant-loop-rest : goal.invariant-loop-rest
invariant-loop-rest l = record {
  there : All (Contains (all_of l.chains)) l.rest;
  rising : AllPairs IsLowerBlock l.rest;
  none : AllPairs (Agree l.chains) l.rest → AllPairs (Agree l.chains) l.blocks;
  found : (a b : Header) → AreFirstIn l.chains l.rest a b → AreFirstIn l.chains l.blocks a b;
}

abbrev pub decreases-loop-rest : goal.decreases-loop-rest
decreases-loop-rest l = length l.rest
