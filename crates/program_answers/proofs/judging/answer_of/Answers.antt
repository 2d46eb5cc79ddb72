use Rattle.std.proofs.Common.{ℕ, List, pos, ap, subst, ◌∙◌, to_z-of_z}
use mir.Syntax.{w32}
use Rattle.verdict_checker.specs.Checks.{IsRefused}
use Rattle.program_answers.proofs.judging.answer_of.Goals as goal

pub returns-in-Err-check-clause-first_refusal : goal.returns-in-Err-check-clause-first_refusal
returns-in-Err-check-clause-first_refusal c readable not = record {
  refusal = c.in-Err-check.refusal;
  first = subst (λ (bytes : List ℕ). IsRefused bytes c.args.verdict.now c.in-Err-check.refusal) c.in-Ok.ensures.found.0 c.in-Err-check.ensures.first_refusal;
  number = to_z-of_z {w = w32} (record { sfits = c.from-in-Err-check.type_inv }) ∙ c.from-in-Err-check.ensures ∙ ap (λ (n : ℕ). pos n) c.number-in-Err-check.ensures;
}
