use Rattle.std.proofs.Common.{rules}
use Rattle.replica_files.specs.KeySets.{journals_of}
use Rattle.replica_files.proofs.Stopping.{stop_first, stop_second}
use Rattle.replica_files.proofs.making.make_files.Goals as goal

pub returns-in_err-make_keys-clause-err : goal.returns-in_err-make_keys-clause-err
returns-in_err-make_keys-clause-err g c =
    let stop = stop_first c.in_err-make_keys.field-0.0 _ _ _ _ _ (journals_of c.args.journals) c.in_err-make_keys.ensures.err in
    search rules

pub returns-in_err-make_journals-clause-err : goal.returns-in_err-make_journals-clause-err
returns-in_err-make_journals-clause-err g c =
    let stop = stop_second c.in_err-make_journals.field-0.0 _ _ _ _ _ _ _ _ c.in_ok-make_keys.ensures.ok c.in_ok-make_keys.ensures.no_failure c.in_err-make_journals.ensures.err in
    search rules
