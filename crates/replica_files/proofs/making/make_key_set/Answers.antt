use Rattle.std.proofs.Common.{rules}
use Rattle.replica_files.proofs.Stopping.{set_stops}
use Rattle.replica_files.proofs.making.make_key_set.Goals as goal

pub returns-in_err-make_files-clause-err : goal.returns-in_err-make_files-clause-err
returns-in_err-make_files-clause-err g c =
    let stop = set_stops c.in_err-make_files.field-0.0 _ _ _ _ _ c.in_err-make_files.ensures.err in
    search rules
