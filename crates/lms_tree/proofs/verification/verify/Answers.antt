use Rattle.std.proofs.Common.{◌≡◌, ◌∙◌, sym, rules}
use Rattle.std.specs.Cmp.Lexicographic.{same_text}
use Rattle.lms_tree.specs.Tree.{root_from_path}
use Rattle.lms_tree.proofs.PathLemmas.{root_from, told_apart}
use Rattle.lms_tree.proofs.verification.verify.Goals as goal

wrong_root : (c : goal.Then-ne) → root_from_path c.args.key.now.key_id c.args.message.now c.args.signature.now ≡ c.args.key.now.root → ⊥
wrong_root c same =
    let root = root_from _ _ _ c.u32_at-q.result c.in-Some.candidate c.leaf_hash-leaf.result c.climbed.result
    c.u32_at-q.ensures c.in-Some.ensures.some.1 c.leaf_hash-leaf.ensures c.climbed.ensures in
    told_apart c.climbed.result c.args.key.now.root c.if-ne.ensures (sym root ∙ same)

pub returns-then-ne-clause-exact : goal.returns-then-ne-clause-exact
returns-then-ne-clause-exact c = (λ none. absurd (cc), λ verifies. absurd (wrong_root c verifies.same_root))

pub returns-then-ne-clause-first_refusal : goal.returns-then-ne-clause-first_refusal
returns-then-ne-clause-first_refusal c = (search rules, search rules, search rules, search rules, wrong_root c)

pub returns-clause-exact : goal.returns-clause-exact
returns-clause-exact c =
    let root = root_from _ _ _ c.u32_at-q.result c.in-Some.candidate c.leaf_hash-leaf.result c.climbed.result
    c.u32_at-q.ensures c.in-Some.ensures.some.1 c.leaf_hash-leaf.ensures c.climbed.ensures in (
      λ _. record {
        long = search rules;
        index = search rules;
        ots_type = search rules;
        tree_type = search rules;
        same_root = root ∙ same_text c.climbed.result c.args.key.now.root (search rules);
      },
      λ _. search rules,
    )
