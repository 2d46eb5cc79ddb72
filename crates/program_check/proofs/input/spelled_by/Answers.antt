use Rattle.std.proofs.Common.{◌≡◌, ◌⊎◌, List, ℕ, Ok, rules}
use Rattle.hex.specs.Hex.{decode_of}
use Rattle.program_check.specs.Lines.{AreTwoLines}
use Rattle.program_parts.proofs.Endings.{handed_on}
use Rattle.program_check.proofs.Spelling.{IsNotSpelled, first_is_not_hex, not_spelled, second_is_not_hex}
use Rattle.program_check.proofs.input.spelled_by.Goals as goal

pub returns-in_err-decoded-clause-refused : goal.returns-in_err-decoded-clause-refused
returns-in_err-decoded-clause-refused c =
    let text = c.args.text.now in
    let first = c.in-Some.committee.now in
    let lines : AreTwoLines text first c.in-Some.verdict.now = search rules in
    handed_on c.from_residual.result (IsNotSpelled text) c.in_err-decoded.field-0.0 c.from_residual.ensures.1
    (not_spelled text ((bytes : List ℕ) → decode_of first ≡ Ok bytes → ⊥) c.in_err-decoded.field-0.0 (first_is_not_hex text first c.in-Some.verdict.now lines) c.in_err-decoded.ensures.refused)

pub returns-in_err-decoded-2-clause-refused : goal.returns-in_err-decoded-2-clause-refused
returns-in_err-decoded-2-clause-refused c =
    let text = c.args.text.now in
    let second = c.in-Some.verdict.now in
    let lines : AreTwoLines text c.in-Some.committee.now second = search rules in
    handed_on c.from_residual-in_err-decoded-2.result (IsNotSpelled text) c.in_err-decoded-2.field-0.0 c.from_residual-in_err-decoded-2.ensures.1
    (not_spelled text ((bytes : List ℕ) → decode_of second ≡ Ok bytes → ⊥) c.in_err-decoded-2.field-0.0 (second_is_not_hex text c.in-Some.committee.now second lines) c.in_err-decoded-2.ensures.refused)
