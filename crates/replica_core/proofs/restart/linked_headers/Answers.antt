use Rattle.std.proofs.Common.{subst, arith}
use Rattle.std.proofs.lemmas.Bool.{iff_false}
use Rattle.blocks.specs.Headers.{Header}
use Rattle.replica_core.specs.Tables.{AddsFirst}
use Rattle.replica_core.proofs.Known.{length_adds}
use Rattle.replica_core.proofs.Linked.{Step, linked_yes, linked_no, linked_all}
use Rattle.replica_core.proofs.restart.linked_headers.Goals.{then-has_parent+in_ok-add_first, else-has_parent}
use Rattle.replica_core.proofs.restart.linked_headers.Goals as goal

pub loop-header-preserved : goal.loop-header-preserved
loop-header-preserved c =
    let all = c.args.headers.now in
    let g = c.args.genesis.now in
    let i = c.loop-header.header-index in
    let x = c.header-item.result in
    let held = c.loop-header.held.headers in
    let inv = c.loop-header.invariant in
    let step : Step all g i x held = record { sorted = c.requires.sorted; apart = c.requires.apart; place = c.loop-header-test.true; is = c.header-item.is; held_so_far = inv.linked } in
    let most = inv.most in
    elim c.if-has_parent.branch [
      | then-has_parent+in_ok-add_first w ↦
          (let new = w.add_first.new.self.headers in
          let adds = subst (λ (h : Header). AddsFirst held new h) w.of.ensures w.in_ok-add_first.ensures.ok in
          let grown = length_adds held new x adds in
          rw w.held-is (record {
            linked = linked_yes all g i x held new step (c.has_parent.ensures.0 w.if-has_parent.true) adds;
            most = omega arith;
            apart = w.in_ok-add_first.ensures.apart;
            once = w.in_ok-add_first.ensures.once;
          }))
      | else-has_parent w ↦
          rw w.held-is (record {
            linked = linked_no all g i x held step (iff_false c.has_parent.ensures w.if-has_parent.false);
            most = omega arith;
            apart = inv.apart;
            once = inv.once;
          })
    ]

pub returns : goal.returns
returns c =
    let inv = c.loop-header.invariant in
    let most = inv.most in
    let end = c.loop-header.auto.header-index-end in
    record {
      linked = linked_all c.args.headers.now c.args.genesis.now c.loop-header.header-index c.loop-header.held.headers c.loop-header-test.false inv.linked;
      apart = inv.apart;
      once = inv.once;
      most = omega arith;
    }
