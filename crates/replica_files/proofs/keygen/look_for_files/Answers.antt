use Rattle.std.proofs.Common.{◌≡◌, rules}
use Rattle.base_wire.specs.declared.key_number.KeyNumber.TheVariants.{Zero}
use Rattle.replica_files.proofs.Looking.{log_looked}
use Rattle.replica_files.proofs.keygen.look_for_files.Goals as goal

pub returns-in_err-look-4-clause-err : goal.returns-in_err-look-4-clause-err
returns-in_err-look-4-clause-err g c =
    let zero : c.args.number ≡ Zero = search rules in
    let first = c.in_ok-look.ensures in
    let second = c.in_ok-look-2.ensures in
    let third = c.in_ok-look-3.ensures in
    let found = log_looked _ _ _ _ _ c.in_err-look-4.field-0.0 _ _ _ _ _ zero first.same second.same third.same first.kept second.kept third.kept
    first.none second.none third.none c.in_err-look-4.ensures.err in
    search rules
