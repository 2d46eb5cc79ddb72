use Rattle.std.proofs.Common.{List, sym, subst}
use Rattle.std.specs.List.{All, Contains}
use Rattle.blocks.specs.Headers.{Header}
use Rattle.ancestry.specs.Known.{all_of}
use Rattle.handover_search.proofs.JudgedChains.{commits_of}
use Rattle.handover_search.proofs.block.handover_in.Goals as goal

pub first_handover-requires : goal.first_handover-requires
first_handover-requires c = record {
  known = subst (λ (hs : List Header). All (Contains (all_of c.args.searched.now.chains)) hs) (sym c.deref.ensures.value) c.requires;
}

pub returns-clause-first : goal.returns-clause-first
returns-clause-first c e is =
    c.first_handover.ensures.first e (commits_of e c.args.searched.now.chains c.args.searched.now.commits.items c.deref.result.now is.evidence is.chains is.proved c.deref.ensures.value)

pub returns-clause-none : goal.returns-clause-none
returns-clause-none c e is =
    c.first_handover.ensures.none e (commits_of e c.args.searched.now.chains c.args.searched.now.commits.items c.deref.result.now is.evidence is.chains is.proved c.deref.ensures.value)
