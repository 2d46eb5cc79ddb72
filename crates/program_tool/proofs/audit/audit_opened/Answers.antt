use Rattle.program_tool.proofs.Endings.{ended}
use Rattle.program_tool.proofs.audit.audit_opened.Goals as goal

pub returns-clause-ended : goal.returns-clause-ended
returns-clause-ended g c =
    let printed = c.in_ok-found.ensures.printed in
    let stored = c.in_ok-finish.ensures.stored in
    ended g.C.Connector c.args.wishes.strictness c.args.committee.now c.args.sources.items _ _ c.args.folder.now c.args.words.now c.args.wishes.json _ _ stored.0 printed.0 c.in_ok-found.found.judged.items c.in_ok-found.found.report c.in_ok-found.found.report.verdicts c.end_of-end.result printed.1 printed.2 c.end_of-end.ensures stored.1 stored.2
