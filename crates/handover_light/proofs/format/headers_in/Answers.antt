use Rattle.std.proofs.Common.{sym, ◌∙◌, ap, subst, length, arith}
use Rattle.std.specs.List.{All}
use Rattle.std.proofs.lemmas.List.Elements.{All-push}
use Rattle.base_wire.proofs.Firsts.{first_more, first_none}
use Rattle.blocks.specs.Headers.{IsHeader}
use Rattle.handover_light.specs.LightProofReading.{bad_header}
use Rattle.handover_light.proofs.Headers.{headers_none}
use Rattle.handover_light.proofs.Reading.{next_read, refused_here}
use Rattle.handover_light.proofs.format.headers_in.Goals as goal

pub loop-k-init : goal.loop-k-init
loop-k-init c = record {
  read = c.in_ok-headers.ensures.items ∙ sym (headers_none c.args.bytes.now);
  each = λ k d below. absurd (omega (arith, ap length c.in_ok-headers.ensures.items));
  good = first_none (bad_header c.args.bytes.now);
}

pub returns-in_err-header_in-clause-err : goal.returns-in_err-header_in-clause-err
returns-in_err-header_in-clause-err c =
    refused_here c.args.bytes.now c.loop-k.k c.args.count c.in_err-header_in.field-0.0 c.from_residual-in_err-header_in.result
    c.loop-k.invariant.good c.loop-k-test.true c.in_err-header_in.ensures.err c.from_residual-in_err-header_in.ensures.1

pub loop-k-preserved : goal.loop-k-preserved
loop-k-preserved c =
    let h = c.in_ok-header_in.field-0 in
    record {
      read = next_read c.args.bytes.now c.loop-k.headers.items c.push.new.self.items c.loop-k.k h c.loop-k.invariant.read c.in_ok-header_in.ensures.ok.0 c.in_ok-push.ensures.items;
      each = subst (All IsHeader) (sym c.in_ok-push.ensures.items) (All-push IsHeader c.loop-k.headers.items h c.loop-k.invariant.each c.in_ok-header_in.ensures.ok.1);
      good = first_more (bad_header c.args.bytes.now) c.loop-k.k c.loop-k.invariant.good c.in_ok-header_in.ensures.good;
    }
