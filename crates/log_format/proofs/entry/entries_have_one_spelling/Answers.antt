use Rattle.log_format.proofs.EntryLaws.{one_spelling}
use Rattle.log_format.proofs.entry.entries_have_one_spelling.Goals as goal

pub returns : goal.returns
returns c e f is_e is_f same = one_spelling e f is_e is_f same
