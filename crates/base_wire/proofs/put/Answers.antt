use Rattle.std.proofs.Common.{arith}
use Rattle.std.proofs.lemmas.Slice.{drop-put_mid}
use Rattle.base_wire.proofs.put.Goals as goal

pub returns-clause-rest : goal.returns-clause-rest
returns-clause-rest c =
    drop-put_mid c.args.at _ c.args.bytes.now c.copy_from_slice.new.self _ (omega arith) (omega arith) (omega arith)
