use Rattle.std.proofs.Common.{ℕ, List, refl, arith}
use Rattle.base_wire.proofs.Order.{refused_fails}
use Rattle.handover_keys.specs.declared.statement.NextKeysRefusal.{NextKeysRefusal}
use Rattle.handover_keys.specs.NextKeys.{NextKeys, IsNextKeysOf}
use Rattle.handover_keys.specs.NextKeysReading.{HasForm, IsNextKeysRefusal, form_order, next_keys_refusal_number}
use Rattle.handover_keys.proofs.NextKeysLaws.{again, found}
use Rattle.handover_keys.proofs.statement.NextKeysView.parse.Goals as goal

-- what is refused spells nothing
not_spelled : (bytes : List ℕ) (refusal : NextKeysRefusal) (v : NextKeys) → IsNextKeysRefusal bytes refusal → IsNextKeysOf bytes v → ⊥
not_spelled bytes refusal v refused is =
    refused_fails next_keys_refusal_number (HasForm bytes) form_order refusal refused (again bytes v is).0

pub returns-in_err-judge-clause-only : goal.returns-in_err-judge-clause-only
returns-in_err-judge-clause-only c v is = absurd (not_spelled c.args.bytes.now c.in_err-judge.field-0.0 v c.in_err-judge.ensures.first_refusal is)

pub returns-clause-found : goal.returns-clause-found
returns-clause-found c = (refl, found c.args.bytes.now (λ i. omega (arith, c.type_inv.bytes i)) c.in_ok-judge.ensures.ok)

pub returns-clause-only : goal.returns-clause-only
returns-clause-only c v is = (refl, (again c.args.bytes.now v is).1)
