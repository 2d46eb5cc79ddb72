use Rattle.handover_folder.proofs.Refused.{refused_says_nothing}
use Rattle.handover_folder.proofs.laws.what_is_refused_says_nothing.Goals as goal

pub returns : goal.returns
returns c = refused_says_nothing
