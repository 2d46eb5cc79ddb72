-- The votes that a verdict names.
use Rattle.std.proofs.Common.{◌≡◌, ◌∙◌, ℕ, List, ap, sym}
use Rattle.serde_json.specs.Data.{Data}
use Rattle.verdict_format.specs.VerdictText.{IsVerdictOf}
use Rattle.verdict_format.specs.Verdicts.{earlier_in, later_in}
use Rattle.verdict_format.specs.declared.parts.VerdictParts.{VerdictParts}
use Rattle.verdict_format.proofs.VerdictLaws.{verdict_again}
use Rattle.audit_run.specs.Data.{block_data}

pub earlier_id : (bytes : List ℕ) (p : VerdictParts) → IsVerdictOf bytes p → (earlier_in bytes).id ≡ p.earlier.id
earlier_id bytes p is = ap (λ (x : VerdictParts). x.earlier.id) (verdict_again bytes p is).1

pub later_id : (bytes : List ℕ) (p : VerdictParts) → IsVerdictOf bytes p → (later_in bytes).id ≡ p.later.id
later_id bytes p is = ap (λ (x : VerdictParts). x.later.id) (verdict_again bytes p is).1

pub same_block : (d : Data) (view other_view : ℕ) (id other_id : List ℕ) → d ≡ block_data view id → view ≡ other_view → other_id ≡ id → d ≡ block_data other_view other_id
same_block d view other_view id other_id is views ids =
    is ∙ ap (λ (x : ℕ). block_data x id) views ∙ ap (λ (x : List ℕ). block_data other_view x) (sym ids)
