use Rattle.std.proofs.lemmas.Result.{IfOk-weaker}
use Rattle.blocks.proofs.Members.{Contains-from_Has}
use Rattle.parallel_verify.proofs.Judgings.{separated}
use Rattle.parallel_verify.proofs.Outcomes.{judged_logs}
use Rattle.parallel_verify.proofs.judging.judge_parts.Goals as goal

pub returns : goal.returns
returns g c =
    IfOk-weaker c.judge_each.result _ _ (λ judged each asked logs parts zip named.
    let committee = c.args.committee.now in
    let bad = c.in_ok-bad.bad in
    let are = c.in_ok-bad.ensures committee zip in
    judged_logs committee bad logs c.args.parts.now judged.items (λ l has. separated committee logs c.args.votes.now bad named are l (Contains-from_Has logs l has)) parts each) c.judge_each.ensures
