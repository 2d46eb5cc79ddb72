use Rattle.audit_commits.proofs.CommitFacts.{chosen_known, proved_from}
use Rattle.audit_commits.proofs.commits.proved_commits.Goals as goal

pub returns-clause-known : goal.returns-clause-known
returns-clause-known c = chosen_known c.args.chains.now c.in_ok-commits.commits.items c.sort_blocks.new.blocks.items c.in_ok-commits.ensures c.sort_blocks.ensures.same

pub returns-clause-proved : goal.returns-clause-proved
returns-clause-proved c =
    λ e is are. proved_from e c.args.chains.now c.in_ok-commits.commits.items c.sort_blocks.new.blocks.items is are c.in_ok-commits.ensures c.sort_blocks.ensures.rising c.sort_blocks.ensures.same
