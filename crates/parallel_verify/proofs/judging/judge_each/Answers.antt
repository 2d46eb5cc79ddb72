use Rattle.std.proofs.Common.{◌≡◌, ◌∙◌, List, ℕ, ap, subst}
use Rattle.std.specs.Prelude.{IfOk}
use Rattle.std.specs.List.{AllZip}
use Rattle.rayon.specs.Lists.{min_len_base}
use Rattle.rayon.proofs.ToStd.{slice-AllZip}
use Rattle.certificates.specs.declared.vote.SignedVote.{SignedVote}
use Rattle.parallel_verify.specs.Readings.{IsJudgedBy}
use Rattle.parallel_verify.proofs.Answered.{IsIfAny, answers_of}
use Rattle.parallel_verify.proofs.judging.judge_each.Goals as goal

pub returns : goal.returns
returns g c =
    let parts = ap min_len_base c.map.ensures.base ∙ c.with_min_len.ensures.base in
    let slice = ap (λ it. it.slice.now) parts ∙ c.par_iter.ensures in
    let h = c.in_ok-collect.ensures in
    let chain = h.1 in
    let f = c.map.result.f in
    let Is = IsJudgedBy f.1.now f.2.now in
    let under : f.1.now ≡ c.args.committee.now = ap (λ f. f.1.now) c.map.ensures.f in
    let bad : f.2.now ≡ c.args.bad.now = ap (λ f. f.2.now) c.map.ensures.f in
    let zip = slice-AllZip chain.0 c.args.parts.now (chain.1 ∙ slice) (IsIfAny Is) h.0 chain.2 in
    subst (λ (k : List ℕ). IfOk c.in_ok-collect.field-0 (λ judged. AllZip (IsJudgedBy k c.args.bad.now) c.args.parts.now judged.items)) under
    (subst (λ (b : List SignedVote). IfOk c.in_ok-collect.field-0 (λ judged. AllZip (IsJudgedBy f.1.now b) c.args.parts.now judged.items)) bad
    (answers_of Is c.args.parts.now h.0 c.in_ok-collect.field-0 zip h.2))
