use Rattle.std.proofs.Common.{rules}
use Rattle.replica_files.proofs.Stopping.{if_stop_second, stop_journals}
use Rattle.replica_files.proofs.making.make_journals.Goals as goal

pub returns-in_err-make_store-clause-err : goal.returns-in_err-make_store-clause-err
returns-in_err-make_store-clause-err g c =
    let stop = stop_journals c.args.journals c.in_err-make_store.field-0.0 _ _ _ _ c.in_err-make_store.ensures.err in
    search rules

pub returns-in-IndicesAndLog-clause-err : goal.returns-in-IndicesAndLog-clause-err
returns-in-IndicesAndLog-clause-err g c =
    let stop = if_stop_second _ _ _ _ _ _ _ _ _ c.in_ok-make_store.ensures.ok c.in_ok-make_store.ensures.no_failure c.make_store-in-IndicesAndLog.ensures.err in
    search rules
