use Rattle.std.proofs.Common.{◌<◌, List, ℕ, ap, sym, subst, ◌∙◌, arith}
use Rattle.lms_tree.specs.Keys.{IsPublicKey}
use Rattle.lms_tree.specs.Tree.{key_text}
use Rattle.lms_tree.proofs.KeyLemmas.{key_spelled}
use Rattle.handover_keys.specs.NextKeys.{count_in, key_in}
use Rattle.handover_keys.proofs.NextKeysLaws.{key_written}
use Rattle.handover_keys.proofs.statement.NextKeysView.key.Goals as goal

pub returns-clause-text : goal.returns-clause-text
returns-clause-text c =
    let bytes = c.self.inside.bytes.now in
    let below : c.args.k < count_in bytes = omega (arith, c.requires, ap count_in c.self.view_is) in
    let is : IsPublicKey c.key_in-key.result.now = subst IsPublicKey (sym c.key_in-key.ensures.text) (c.self.invariant.1.1.1.1.0 c.args.k below) in
    sym (key_spelled c.key_in-key.result.now c.array_at.result c.array_at-2.result c.key_in-key.ensures.fit is c.array_at.ensures c.array_at-2.ensures)
    ∙ c.key_in-key.ensures.text ∙ ap (λ (b : List ℕ). key_in b c.args.k) c.self.view_is

pub returns-clause-as_written : goal.returns-clause-as_written
returns-clause-as_written c =
    key_written c.args.self.now (key_text c.array_at.result c.array_at-2.result) c.args.k c.requires (sym (returns-clause-text c))
