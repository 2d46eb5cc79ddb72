use Rattle.std.proofs.Common.{rules}
use Rattle.replica_files.specs.declared.files.KeyFile.TheVariants.{PublicKey}
use Rattle.replica_files.specs.declared.folder.Readers.TheVariants.{All}
use Rattle.replica_files.specs.KeySets.{one_file, public_key}
use Rattle.replica_files.proofs.Stopping.{if_stop_second, stop_first}
use Rattle.replica_files.proofs.making.make_key.Goals as goal

pub returns-in_err-make-clause-err : goal.returns-in_err-make-clause-err
returns-in_err-make-clause-err g c =
    let stop = stop_first c.in_err-make.field-0.0 _ _ _ _ _ (one_file (PublicKey c.args.number) (public_key c.args.secret.now) All) c.in_err-make.ensures.err in
    search rules

pub returns-clause-err : goal.returns-clause-err
returns-clause-err g c =
    let stop = if_stop_second _ _ _ _ _ _ _ _ _ c.in_ok-make.ensures.ok c.in_ok-make.ensures.no_failure c.make-2.ensures.err in
    search rules
