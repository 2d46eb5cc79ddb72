use Rattle.std.proofs.Common.{refl, subst, arith}
use Rattle.handover_keys.specs.NextKeysReading.{IsStatement}
use Rattle.handover_keys.proofs.EndorsementLaws.{endorsement_again, endorsement_found, stated_in}
use Rattle.handover_keys.proofs.endorsement.EndorsementView.parse.Goals as goal

pub returns-clause-found : goal.returns-clause-found
returns-clause-found c = (
  refl,
  endorsement_found c.args.bytes.now (λ i. omega (arith, c.type_inv.bytes i))
      (subst IsStatement c.statement_in.ensures (stated_in c.statement_in.result.now c.in_ok-parse.ensures.found.1)),
)

pub returns-clause-only : goal.returns-clause-only
returns-clause-only c statement key signature is =
    let parts = endorsement_again c.args.bytes.now statement key signature is in (refl, parts.0, parts.1, parts.2)
