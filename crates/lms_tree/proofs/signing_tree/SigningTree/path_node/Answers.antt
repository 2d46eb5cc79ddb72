use Rattle.std.proofs.Common.{ℕ, ap, ◌∙◌}
use Rattle.lmots.specs.declared.keys.PrivateSeed.{PrivateSeed}
use Rattle.lms_tree.specs.Tree.{tree_node, path_node}
use Rattle.lms_tree.proofs.SignedVerifies.{sibling_in_tree}
use Rattle.lms_tree.proofs.signing_tree.SigningTree.path_node.Goals as goal

pub returns : goal.returns
unfolding path_node
returns c =
    let bounds = sibling_in_tree c.args.q c.args.level c.requires.leaf c.requires.level in
    let there = c.sibling.ensures in
    let known = c.self.invariant.1 c.sibling.result c.index.result.now (rw there bounds.1) (rw there bounds.2) in
    let seen = ap (λ (s : PrivateSeed). tree_node s.key_id s.seed c.sibling.result) c.self.view_is in
    c.index.ensures ∙ known ∙ seen ∙ ap (λ (r : ℕ). tree_node c.args.self.now.key_id c.args.self.now.seed r) there
