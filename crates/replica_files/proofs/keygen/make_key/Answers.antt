use Rattle.std.proofs.Common.{rules}
use Rattle.replica_files.proofs.Looking.{first_named, none_there}
use Rattle.replica_files.proofs.keygen.make_key.Goals as goal

pub returns-in_err-look_for_files-clause-taken : goal.returns-in_err-look_for_files-clause-taken
returns-in_err-look_for_files-clause-taken g c =
    first_named c.args.number (g.D.MakeFolder.files c.args.folder.now) c.from_residual.result c.in_err-look_for_files.field-0.0 _ _ (search rules)
    c.in_err-look_for_files.ensures.err

pub returns-clause-taken : goal.returns-clause-taken
returns-clause-taken g c = none_there c.args.number (g.D.MakeFolder.files c.args.folder.now) _ c.in_ok-look_for_files.ensures.none

pub returns-clause-untouched : goal.returns-clause-untouched
returns-clause-untouched g c = none_there c.args.number (g.D.MakeFolder.files c.args.folder.now) _ c.in_ok-look_for_files.ensures.none
