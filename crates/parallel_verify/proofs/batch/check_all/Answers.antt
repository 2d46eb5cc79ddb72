use Rattle.std.proofs.Common.{◌∙◌, ap}
use Rattle.rayon.specs.Lists.{min_len_base}
use Rattle.rayon.proofs.ToStd.{slice-AllZip}
use Rattle.certificates.specs.Votes.{IsAnswerOn}
use Rattle.parallel_verify.proofs.Answered.{IsIfAny, answers_of}
use Rattle.parallel_verify.proofs.batch.check_all.Goals as goal

pub returns : goal.returns
returns g c =
    let votes = ap min_len_base c.map.ensures.base ∙ c.with_min_len.ensures.base in
    let slice = ap (λ it. it.slice.now) votes ∙ c.par_iter.ensures in
    let h = c.in_ok-collect.ensures in
    let chain = h.1 in
    let Is = IsAnswerOn g.N.BoardNaming.committee in
    answers_of Is c.args.votes.now h.0 c.in_ok-collect.field-0 (slice-AllZip chain.0 c.args.votes.now (chain.1 ∙ slice) (IsIfAny Is) h.0 chain.2) h.2
