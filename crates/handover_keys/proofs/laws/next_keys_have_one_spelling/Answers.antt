use Rattle.handover_keys.proofs.NextKeysLaws.{one_spelling}
use Rattle.handover_keys.proofs.laws.next_keys_have_one_spelling.Goals as goal

pub returns : goal.returns
returns c = one_spelling
