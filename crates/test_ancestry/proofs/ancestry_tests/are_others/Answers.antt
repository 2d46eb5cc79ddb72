use Rattle.std.proofs.Common.{◌≢◌, List, ◌∙◌, sym, subst}
use Rattle.std.proofs.lemmas.Bool.{false≢true}
use Rattle.std.proofs.lemmas.List.{take_all}
use Rattle.std.specs.List.{All}
use Rattle.blocks.specs.Headers.{Header, header_id}
use Rattle.ancestry.proofs.Ids.{headers_decide}
use Rattle.test_ancestry.proofs.Rising.{alone_from, others_more}
use Rattle.test_ancestry.proofs.ancestry_tests.are_others.Goals as goal

pub loop-h-preserved : goal.loop-h-preserved
loop-h-preserved c =
    let test = headers_decide c.h-item.result c.args.genesis.now c.eq.result c.id.result.now c.id-in-loop-h.result.now c.id.ensures c.id-in-loop-h.ensures c.eq.ensures in
    others_more c.args.genesis.now c.args.headers.now c.loop-h.h-index c.h-item.result c.loop-h-test.true c.h-item.is c.loop-h.invariant (λ same. false≢true (sym c.if-eq.false ∙ test.1 same))

pub returns : goal.returns
returns c = λ _.
    alone_from c.args.genesis.now c.args.headers.now
    (subst (λ (l : List Header). All (λ h. header_id h ≢ header_id c.args.genesis.now) l) (take_all c.loop-h.h-index c.args.headers.now c.loop-h-test.false) c.loop-h.invariant)
