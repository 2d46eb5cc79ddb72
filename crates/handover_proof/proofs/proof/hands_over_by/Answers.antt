use Rattle.std.proofs.Common.{List, rules, sym, subst}
use Rattle.std.specs.List.{All, Contains}
use Rattle.blocks.specs.Headers.{Header}
use Rattle.ancestry.specs.Known.{all_of}
use Rattle.handover_search.proofs.JudgedChains.{commits_of}
use Rattle.handover_proof.proofs.proof.hands_over_by.Goals as goal

pub agree-requires-clause-known : goal.agree-requires-clause-known
agree-requires-clause-known c = subst (λ (hs : List Header). All (Contains (all_of c.in_ok-chains.chains)) hs) (sym c.deref.ensures.value) c.in_ok-commits.ensures.known

pub hand_over_first-requires : goal.hand_over_first-requires
hand_over_first-requires c = record {
  known = subst (λ (hs : List Header). All (Contains (all_of c.in_ok-chains.chains)) hs) (sym c.deref-2.ensures.value) c.in_ok-commits.ensures.known;
}

pub returns : goal.returns
returns c is =
    let e = c.args.evidence.now in
    let sound = c.certified_chains.ensures.evidence in
    let certified = c.in_ok-chains.ensures.chains in
    let proved = c.in_ok-commits.ensures.proved e sound certified in
    let of = commits_of e c.in_ok-chains.chains c.in_ok-commits.commits.items c.deref.result.now sound certified proved c.deref.ensures.value in
    let of-2 = commits_of e c.in_ok-chains.chains c.in_ok-commits.commits.items c.deref-2.result.now sound certified proved c.deref-2.ensures.value in
    record { agree = c.agree.ensures e of (search rules); first = c.hand_over_first.ensures e of-2 is }
