use Rattle.std.proofs.Common.{◌≡◌, length, arith, refl, ◌∙◌}
use Rattle.handover_renewals.proofs.SlotLaws.{head_of, put_all, put_more, put_none}
use Rattle.handover_renewals.proofs.slot_statement.SlotStatement.of.Goals as goal

pub loop-k-init : goal.loop-k-init
loop-k-init c = put_none c.args.committee.now (head_of c.args.chain.now c.args.s c.keys-count.result) c.put_head.new.bytes c.args.s c.put_head.ensures

pub loop-k-preserved : goal.loop-k-preserved
loop-k-preserved c =
    let long : length c.to_bytes.result ≡ 56 = omega arith in
    put_more c.args.committee.now (head_of c.args.chain.now c.args.s c.keys-count.result) c.loop-k.bytes c.put.new.bytes c.to_bytes.result c.args.s
    c.loop-k.k _ _ refl long (c.to_bytes.ensures ∙ c.key.ensures.text) c.loop-k.invariant c.put.ensures.written

pub returns : goal.returns
returns c =
    let end : c.loop-k.k ≡ c.keys-count.result = omega arith in
    put_all c.args.committee.now c.args.chain.now c.loop-k.bytes c.args.s c.loop-k.k c.keys-count.result c.keys-count.ensures.value end c.loop-k.invariant
