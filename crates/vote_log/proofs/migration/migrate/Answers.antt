use Rattle.std.proofs.Common.{IfSome, rules}
use Rattle.vote_log.specs.OldEntries.{AreOldTexts}
use Rattle.vote_log.proofs.OldLogs.{carried_over}
use Rattle.vote_log.proofs.migration.migrate.Goals as goal

pub returns-in-Ok-copy-clause-ok : goal.returns-in-Ok-copy-clause-ok
returns-in-Ok-copy-clause-ok g c =
    let told = g.D.Disk.bytes c.args.old.disk in
    let tells = g.D.Disk.bytes c.args.disk in
    let entries = c.copy.new.log.entries in
    let ok : IfSome told (λ _. IfSome tells (λ _. AreOldTexts c.args.old.payloads entries)) = search rules in
    carried_over told tells c.args.old.payloads entries ok
