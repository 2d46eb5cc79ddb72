use Rattle.std.proofs.Common.{List, ◌≤◌, length, ap, subst, sym, inl, refl, arith}
use Rattle.std.proofs.lemmas.Result.{IfOk-weaker}
use Rattle.std.proofs.lemmas.List.Sorted.{length_permutation}
use Rattle.blocks.specs.Headers.{Header}
use Rattle.replica_core.specs.Cores.{IsHeaderTree}
use Rattle.replica_core.specs.Restarts.{AreAllLinked, HoldsLinked, known_headers}
use Rattle.replica_core.proofs.Known.{AreFirsts}
use Rattle.replica_core.proofs.Linked.{firsts_permuted, tree_from}
use Rattle.replica_core.proofs.restart.restored_headers.Goals as goal

-- the headers by rising view are the first of their ids
firsts : (c : goal.After-deref) → AreFirsts (known_headers c.args.genesis.now c.args.entries.now) c.deref.result.now
firsts c =
    let g = c.args.genesis.now in
    let list = c.args.entries.now in
    subst (λ (hs : List Header). AreFirsts (known_headers g list) hs) (sym c.deref.ensures.value)
    (firsts_permuted (known_headers g list) c.in_ok-known.known.headers c.by_view-headers.result.items c.by_view-headers.ensures.same c.in_ok-known.ensures.firsts)

few : (c : goal.After-deref) → length c.deref.result.now ≤ 65536
few c =
    let most = c.in_ok-known.ensures.most in
    let same = length_permutation c.in_ok-known.known.headers c.by_view-headers.result.items c.by_view-headers.ensures.same in
    let at = ap (λ (hs : List Header). length hs) c.deref.ensures.value in
    let bound = c.requires.few in
    omega arith

pub linked_headers-requires-clause-root : goal.linked_headers-requires-clause-root
linked_headers-requires-clause-root c = (firsts c c.args.genesis.now).1 (inl refl)

pub returns-clause-headers : goal.returns-clause-headers
returns-clause-headers c =
    let all = c.deref.result.now in
    let g = c.args.genesis.now in
    let list = c.args.entries.now in
    let kept = firsts c.before.before in
    IfOk-weaker c.linked_headers.result (λ t. AreAllLinked all t.headers g) (λ t. HoldsLinked g list t.headers) (λ t a. record { kept = all; firsts = kept; linked = a.linked }) c.linked_headers.ensures

pub returns-clause-tree : goal.returns-clause-tree
returns-clause-tree c =
    let all = c.deref.result.now in
    let g = c.args.genesis.now in
    let root = (firsts c.before.before g).1 (inl refl) in
    let small = few c.before.before in
    IfOk-weaker c.linked_headers.result (λ t. AreAllLinked all t.headers g) (λ t. IsHeaderTree g t.headers) (λ t a. tree_from g all t.headers c.requires.genesis root small a) c.linked_headers.ensures
