use Rattle.std.proofs.Common.{◌≡◌, ℕ, length, sym, ap, subst, ◌∙◌}
use Rattle.verdict_format.specs.Verdicts.{verdict_kind_in, verdict_length}
use Rattle.verdict_format.specs.RuleNumbers.{rule_number}
use Rattle.verdict_format.specs.VerdictReading.{IsReadableVerdict}
use Rattle.verdict_format.proofs.VerdictLaws.{no_headers}
use Rattle.verdict_format.proofs.verdict.VerdictView.shown.Goals as goal

pub returns-in-DoubleVote : goal.returns-in-DoubleVote
returns-in-DoubleVote c =
    let bytes = c.args.self.now in
    let readable : IsReadableVerdict bytes = subst IsReadableVerdict c.self.view_is c.self.invariant in
    let one : verdict_kind_in bytes ≡ 1 = sym c.rule.ensures ∙ ap rule_number c.in-DoubleVote.is in
    let long : length bytes ≡ 3025 = subst (λ (k : ℕ). length bytes ≡ verdict_length k) one readable.1.1.1.0 in
    (one, no_headers bytes long)
