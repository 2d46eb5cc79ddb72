use Rattle.std.proofs.Common.{◌≡◌, ◌<◌, ◌∙◌, length, map, subst, arith}
use Rattle.std.specs.Prelude.{IsPermutation}
use Rattle.std.proofs.lemmas.List.Elements.{All-push}
use Rattle.std.proofs.lemmas.List.Sorted.{All-permutation, IsPermutation-map}
use Rattle.audit_picture.specs.Standings.{IsJudged}
use Rattle.audit_picture.specs.declared.placing.Judged.{Judged}
use Rattle.std.proofs.lemmas.List.{take_all}
use Rattle.audit_picture.proofs.Copies.{next_copied}
use Rattle.audit_picture.proofs.placing.in_order.Goals as goal

pub loop-header-preserved : goal.loop-header-preserved
loop-header-preserved c =
    let judged : Judged = c.judge.result in
    let headers = c.args.headers.now in
    let i = c.loop-header.header-index in
    let within : i < length headers = omega arith in
    record {
      judged = rw c.in_ok-push.ensures.items
          (All-push (λ (j : Judged). IsJudged c.args.evidence.now c.args.report.now j.header j.standing j.support) c.loop-header.order.items judged c.loop-header.invariant.judged c.judge.ensures.is);
      same = rw c.in_ok-push.ensures.items
          (next_copied (λ (j : Judged). j.header) headers c.loop-header.order.items i c.header-item.result judged within c.header-item.is c.judge.ensures.same c.loop-header.invariant.same);
    }

pub returns-clause-judged : goal.returns-clause-judged
returns-clause-judged c =
    All-permutation (λ (j : Judged). IsJudged c.args.evidence.now c.args.report.now j.header j.standing j.support)
    c.loop-header.order.items c.sort_unstable_by_key.new.self.items c.sort_unstable_by_key.ensures.permutation c.loop-header.invariant.judged

pub returns-clause-same : goal.returns-clause-same
returns-clause-same c =
    let headers = c.args.headers.now in
    let new = c.sort_unstable_by_key.new.self.items in
    let all : map (λ (j : Judged). j.header) c.loop-header.order.items ≡ headers =
    c.loop-header.invariant.same ∙ take_all c.loop-header.header-index headers (omega arith) in
    subst (λ hs. IsPermutation hs (map (λ (j : Judged). j.header) new)) all
    (IsPermutation-map (λ (j : Judged). j.header) c.loop-header.order.items new c.sort_unstable_by_key.ensures.permutation)
