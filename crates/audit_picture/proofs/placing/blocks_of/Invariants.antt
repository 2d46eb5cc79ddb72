use Rattle.std.proofs.Common.{◌≡◌, map, take}
use Rattle.std.specs.List.{All}
use Rattle.culprit_search.specs.Reports.{Report}
use Rattle.audit_evidence.specs.Evidence.{Evidence}
use Rattle.audit_picture.specs.Drawings.{IsJudgedBlock}
use Rattle.audit_picture.specs.Standings.{IsJudged}
use Rattle.audit_picture.proofs.placing.blocks_of.Given as goal

abbrev pub invariant-loop-judged : goal.invariant-loop-judged
invariant-loop-judged l = record {
  judged : (e : Evidence) (r : Report) → All (λ j. IsJudged e r j.header j.standing j.support) l.order → All (IsJudgedBlock e r) l.blocks.items;
  same : map (λ b. b.header) l.blocks.items ≡ map (λ j. j.header) (take l.judged-index l.order);
}
