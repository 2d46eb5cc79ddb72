use Rattle.std.proofs.Common.{arith, rules}
use Rattle.handover_folder.proofs.WordLaws.{read_back}
use Rattle.handover_folder.proofs.word.read_word.Goals as goal

pub returns-clause-ok : goal.returns-clause-ok
returns-clause-ok c =
    read_back c.args.entry.now _ _ (search rules) (omega arith) c.array_at.ensures c.array_at-2.ensures
