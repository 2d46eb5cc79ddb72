use Rattle.handover_folder.proofs.WordLaws.{one_spelling, says_one_thing}
use Rattle.handover_folder.proofs.laws.words_have_one_spelling.Goals as goal

pub returns-clause-words : goal.returns-clause-words
returns-clause-words c = one_spelling

pub returns-clause-images : goal.returns-clause-images
returns-clause-images c = says_one_thing
