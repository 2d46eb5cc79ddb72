use Rattle.watch_desk.proofs.DeskRounds.{just_the_culprits}
use Rattle.watch_desk.proofs.laws.a_desk_names_just_the_culprits.Goals as goal

pub returns : goal.returns
returns c e r old new heard q a h = just_the_culprits e r old.verdicts new.verdicts q a.verdicts h.verdicts
