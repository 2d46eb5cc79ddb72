use Rattle.std.proofs.Common.{List, ℕ, refl, rules, arith}
use Rattle.base_wire.proofs.Order.{refused_fails}
use Rattle.verdict_format.specs.declared.verdict.VerdictRefusal.{VerdictRefusal}
use Rattle.verdict_format.specs.declared.verdict.VerdictRefusal.TheVariants.{Short, Magic, Kind, Length}
use Rattle.verdict_format.specs.declared.parts.VerdictParts.{VerdictParts}
use Rattle.verdict_format.specs.VerdictReading.{HasForm, IsReadableVerdict, IsFormRefusal, form_order, verdict_refusal_number}
use Rattle.verdict_format.specs.VerdictText.{IsVerdictOf}
use Rattle.verdict_format.proofs.VerdictLaws.{verdict_found, verdict_again}
use Rattle.verdict_format.proofs.verdict.VerdictView.parse.Goals as goal

-- what is refused spells nothing
not_spelled : (bytes : List ℕ) (refusal : VerdictRefusal) (v : VerdictParts) → IsFormRefusal bytes refusal → IsVerdictOf bytes v → ⊥
not_spelled bytes refusal v refused is =
    refused_fails verdict_refusal_number (HasForm bytes) form_order refusal refused (verdict_again bytes v is).0

pub returns-then-bytes-lt-EARLIER_AT-clause-only : goal.returns-then-bytes-lt-EARLIER_AT-clause-only
returns-then-bytes-lt-EARLIER_AT-clause-only c v is =
    let refused : IsFormRefusal c.args.bytes.now Short = search rules in absurd (not_spelled c.args.bytes.now Short v refused is)

pub returns-then-not-starts_with-clause-only : goal.returns-then-not-starts_with-clause-only
returns-then-not-starts_with-clause-only c v is =
    let refused : IsFormRefusal c.args.bytes.now Magic = search rules in absurd (not_spelled c.args.bytes.now Magic v refused is)

pub returns-in_default-clause-only : goal.returns-in_default-clause-only
returns-in_default-clause-only c v is =
    let refused : IsFormRefusal c.args.bytes.now Kind = search rules in absurd (not_spelled c.args.bytes.now Kind v refused is)

pub returns-then-bytes-verdict_len-clause-only : goal.returns-then-bytes-verdict_len-clause-only
returns-then-bytes-verdict_len-clause-only c v is =
    let refused : IsFormRefusal c.args.bytes.now Length = search rules in absurd (not_spelled c.args.bytes.now Length v refused is)

pub returns-clause-found : goal.returns-clause-found
returns-clause-found c headers =
    let readable : IsReadableVerdict c.args.bytes.now = search rules in
    verdict_found c.args.bytes.now (λ i. omega (arith, c.type_inv.bytes i)) readable headers

pub returns-clause-only : goal.returns-clause-only
returns-clause-only c v is = (refl, (verdict_again c.args.bytes.now v is).1)
