use Rattle.std.proofs.Common.{◌∷◌, ℕ, List, None, Some, subst}
use Rattle.handover_steps.specs.Least.{IsLeast}
use Rattle.handover_steps.specs.Successors.{IsTakenNumber, files_of}
use Rattle.handover_steps.proofs.TakenLaws.{free_file}
use Rattle.handover_steps.proofs.payload.successor_payload.Goals as goal

pub returns-in-Some-clause-first_refusal : goal.returns-in-Some-clause-first_refusal
returns-in-Some-clause-first_refusal c =
    let found = c.in-Ok.ensures.found in
    let old = c.args.old.now in (
      found.1,
      subst (λ (new : List ℕ). IsLeast (IsTakenNumber (old ∷ files_of c.args.earlier.now) old new) (Some c.in-Some.key)) found.0 c.in-Some.ensures,
    )

pub returns-in-None-clause-ok : goal.returns-in-None-clause-ok
returns-in-None-clause-ok c =
    let found = c.in-Ok.ensures.found in
    let old = c.args.old.now in
    let earlier = files_of c.args.earlier.now in (
      free_file earlier old c.args.file.now found.1 (
          subst (λ (new : List ℕ). IsLeast (IsTakenNumber (old ∷ earlier) old new) None) found.0 c.in-None.ensures),
      c.handover_payload.ensures,
    )
