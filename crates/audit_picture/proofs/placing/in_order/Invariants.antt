use Rattle.std.proofs.Common.{◌≡◌, map, take}
use Rattle.std.specs.List.{All}
use Rattle.audit_picture.specs.Standings.{IsJudged}
use Rattle.audit_picture.proofs.placing.in_order.Given as goal

abbrev pub invariant-loop-header : goal.invariant-loop-header
invariant-loop-header l = record {
  judged : All (λ j. IsJudged l.evidence l.report j.header j.standing j.support) l.order.items;
  same : map (λ j. j.header) l.order.items ≡ take l.header-index l.headers;
}
