use Rattle.std.proofs.Common.{List, ℕ, subst, sym}
use Rattle.verdict_format.specs.Proofs.{IsProof}
use Rattle.verdict_checker.specs.Checks.{IsRefused}
use Rattle.program_check.proofs.Judging.{accepted_is, answers_so, refused_is}
use Rattle.program_check.proofs.judge.run_check.Goals as goal

pub returns-clause-accepts : goal.returns-clause-accepts
returns-clause-accepts g c readable proof =
    let same = c.in-Ok.ensures.found.0 in
    let judgement = c.judge_verdict.result in
    let is = accepted_is _ _ judgement.status judgement.line c.judge_verdict.ensures.judged (subst (λ (k : List ℕ). IsProof k c.args.verdict.now) (sym same) proof) in
    answers_so _ _ _ _ _ _ _ _ _ is.1 is.0 c.print.ensures

pub returns-clause-refuses : goal.returns-clause-refuses
returns-clause-refuses g c readable none =
    let same = c.in-Ok.ensures.found.0 in
    let judgement = c.judge_verdict.result in
    let is = refused_is _ _ judgement.status judgement.line c.judge_verdict.ensures.judged (λ proof. none (subst (λ (k : List ℕ). IsProof k c.args.verdict.now) same proof)) in
    (is.1.0, subst (λ (k : List ℕ). IsRefused k c.args.verdict.now is.1.0) same is.1.1, answers_so _ _ _ _ _ _ _ _ _ is.1.2 is.0 c.print.ensures)
