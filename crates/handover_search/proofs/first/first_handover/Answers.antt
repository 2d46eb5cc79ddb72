use Rattle.std.proofs.Common.{◌≡◌, ◌-◌, ◌≤◌, Some, length, sym}
use Rattle.std.specs.Prelude.{slice_get}
use Rattle.handover_search.proofs.Highest.{highest, last_there, none_there, only_one}
use Rattle.handover_search.proofs.first.first_handover.Goals as goal

pub returns-in-Some-clause-only : goal.returns-in-Some-clause-only
returns-in-Some-clause-only c e of agree =
    let commits = c.args.commits.now in
    let u = c.in-Some.highest.now in
    let last : slice_get commits (length commits - 1) ≡ Some u = sym c.in-Some.ensures.value in
    let proved = (of.proved.exact u).0 (last_there commits u last) in
    only_one e c.first_in_chain.result c.a_first_handover_is_alone.ensures.alone of.evidence agree (c.first_in_chain.ensures.first e of.evidence of.certified proved)

pub returns-in-Some-clause-none : goal.returns-in-Some-clause-none
returns-in-Some-clause-none c e of agree none b k =
    let commits = c.args.commits.now in
    let u = c.in-Some.highest.now in
    let last : slice_get commits (length commits - 1) ≡ Some u = sym c.in-Some.ensures.value in
    let proved = (of.proved.exact u).0 (last_there commits u last) in
    let low : k.tip.view ≤ u.view = highest commits u k.tip of.proved.rising last ((of.proved.exact k.tip).1 k.commit) in
    c.first_in_chain.ensures.none e of.evidence of.certified proved none b (c.a_first_handover_is_alone.ensures.highest e u b of.evidence agree proved k low) k.kind

pub returns-in-None-clause-none : goal.returns-in-None-clause-none
returns-in-None-clause-none c e of agree none b k =
    none_there c.args.commits.now k.tip (sym c.in-None.ensures.value) ((of.proved.exact k.tip).1 k.commit)
