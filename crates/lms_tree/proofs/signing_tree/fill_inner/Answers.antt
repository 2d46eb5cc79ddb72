use Rattle.std.proofs.Common.{◌≡◌, ◌+◌, ◌-◌, ◌*◌, [], arith, ◌∙◌}
use Rattle.std.proofs.lemmas.List.{length-set}
use Rattle.lms_tree.specs.Tree.{tree_node}
use Rattle.lms_tree.proofs.NodeLemmas.{node_inner, set_agrees}
use Rattle.lms_tree.proofs.signing_tree.fill_inner.Goals as goal

pub loop-r-preserved : goal.loop-r-preserved
loop-r-preserved c =
    let below = c.loop-r.invariant.1 in
    let left = below (2 * (c.loop-r.r - 1)) [] (omega arith) (omega arith) in
    let right = below (2 * (c.loop-r.r - 1) + 1) [] (omega arith) (omega arith) in
    let inner = node_inner c.args.secret.now.key_id c.args.secret.now.seed (c.loop-r.r - 1) (omega arith) (omega arith) in
    let value : c.inner_hash.result ≡ tree_node c.args.secret.now.key_id c.args.secret.now.seed (c.loop-r.r - 1) = cc in (
      length-set _ _ _ ∙ c.loop-r.invariant.0,
      λ r d low high. set_agrees (tree_node c.args.secret.now.key_id c.args.secret.now.seed) _ _ _ r d (omega arith) value
          (λ other. below r d (omega arith) high),
    )
