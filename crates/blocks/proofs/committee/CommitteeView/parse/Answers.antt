use Rattle.std.proofs.Common.{◌∙◌, ap, arith, refl}
use Rattle.blocks.specs.Committees.{place_of, weight_at}
use Rattle.blocks.specs.Weights.{weight_of, is_any}
use Rattle.blocks.proofs.CommitteeLaws.{committee_found, committee_again, size_of}
use Rattle.blocks.proofs.committee.CommitteeView.parse.Goals as goal

pub returns-in_err-judge-clause-only : goal.returns-in_err-judge-clause-only
returns-in_err-judge-clause-only c members is =
    let read = committee_again members c.args.bytes.now is in
    let refused = c.in_err-judge.ensures in
    absurd cc

pub u16_at-requires : goal.u16_at-requires
u16_at-requires c =
    let bytes = c.args.bytes.now in
    let size = size_of bytes (committee_found bytes (λ i. omega (arith, c.type_inv.bytes i)) c.in_ok-judge.ensures) in
    omega (arith, size.eight)

pub total_of-requires : goal.total_of-requires
total_of-requires c =
    let bytes = c.args.bytes.now in
    let size = size_of bytes (committee_found bytes (λ i. omega (arith, c.type_inv.bytes i)) c.in_ok-judge.ensures) in
    omega (arith, size.long, ap (place_of bytes) c.u16_at.ensures)

pub invariant_of-result : goal.invariant_of-result
invariant_of-result c =
    let bytes = c.args.bytes.now in (
      committee_found bytes (λ i. omega (arith, c.type_inv.bytes i)) c.in_ok-judge.ensures,
      c.of.ensures ∙ c.genesis_of.ensures,
      c.total_of.ensures ∙ ap (weight_of (weight_at bytes) is_any) c.u16_at.ensures,
    )

pub returns-clause-found : goal.returns-clause-found
returns-clause-found c = (refl, committee_found c.args.bytes.now (λ i. omega (arith, c.type_inv.bytes i)) c.in_ok-judge.ensures)
