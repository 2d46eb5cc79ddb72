use Rattle.std.proofs.Common.{arith, subst, sym}
use Rattle.std.proofs.lemmas.List.{take_all}
use Rattle.std.proofs.lemmas.List.Elements.{All-more, All-same}
use Rattle.blocks.specs.Headers.{Header, IsHeader}
use Rattle.handover_light.proofs.format.spell_headers.Goals as goal

pub loop-header-preserved : goal.loop-header-preserved
loop-header-preserved c =
    All-more IsHeader c.args.headers.now c.loop-header.header-index c.header-item.result c.loop-header-test.true c.loop-header.invariant
    (subst (λ (h : Header). IsHeader h) c.header-item.is c.to_bytes-bytes.ensures.is_header)

pub returns : goal.returns
returns c = All-same IsHeader _ _ (sym (take_all c.loop-header.header-index c.args.headers.now (omega (arith, c.loop-header-test.false)))) c.loop-header.invariant
