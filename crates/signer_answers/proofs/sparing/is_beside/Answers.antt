use Rattle.std.proofs.Common.{ℕ, Option, inr, subst}
use Rattle.std.specs.Prelude.{MatchOption}
use Rattle.blocks.specs.Headers.{Header}
use Rattle.handover_blocks.specs.Handovers.{handover_mark}
use Rattle.replica_core.specs.Marks.{HasNoMarkedIn, IsFirstMarkedIn}
use Rattle.signer_answers.proofs.sparing.is_beside.Goals as goal

pub returns-in-Some : goal.returns-in-Some
returns-in-Some g c = λ yes.
    let some = c.handover_below.ensures in
    let parent = c.args.block.now.parent in
    inr (
      c.in-Some.field-0,
      record {
        desk = some.desk;
        is_desk = some.is_desk;
        is = subst (λ (o : Option Header). MatchOption o (HasNoMarkedIn some.desk.core handover_mark parent) (IsFirstMarkedIn some.desk.core handover_mark parent)) c.in-Some.is some.is;
      },
    )
