use Rattle.std.proofs.Common.{◌≡◌, ◌∙◌, ℕ, List, ap, subst, sym, arith}
use Rattle.std.proofs.lemmas.Bool.{false≢true}
use Rattle.blocks.specs.Committees.{key_id_at}
use Rattle.lms_tree.specs.declared.public_key.PublicKey.{PublicKey}
use Rattle.handover_blocks.specs.OldKeys.{IsKeyOf, IsOldKey, public_key_at}
use Rattle.handover_blocks.proofs.Below.{one_more_below}
use Rattle.handover_steps.proofs.taken.first_of_slot.Goals as goal

pub loop-k-preserved : goal.loop-k-preserved
loop-k-preserved c =
    let ids = c.key.ensures.key_id in
    let read : c.key.result ≡ public_key_at c.args.new.now c.args.slot c.loop-k.k =
    ap (λ (i : List ℕ). record { key_id = i; root = c.key.result.root }) ids
    ∙ ap (λ (x : List ℕ). record { key_id = key_id_at c.args.new.now c.args.slot c.loop-k.k; root = x }) c.key.ensures.root in
    one_more_below (λ k. IsOldKey c.args.before.now c.args.new.now c.args.slot k → ⊥) c.loop-k.k c.loop-k.invariant
    (λ m. false≢true (sym c.if-is_key_of.false ∙ c.is_key_of.ensures.1 (subst (λ (key : PublicKey). IsKeyOf c.args.before.now key) (sym read) m)))

pub returns-clause-first : goal.returns-clause-first
returns-clause-first c k less =
    let value = c.keys-k-end.ensures.value in
    let past = c.loop-k-test.false in
    c.loop-k.invariant k (omega arith)
