use Rattle.watch_command.proofs.Named.{never_named}
use Rattle.watch_command.proofs.next.named_committee.Goals as goal

pub returns-in_default-clause-only : goal.returns-in_default-clause-only
returns-in_default-clause-only c named =
    absurd (never_named c.in_default.field-0 c.args.old.now c.args.payload.now c.args.file.now c.in_default.ensures.first_refusal named)
