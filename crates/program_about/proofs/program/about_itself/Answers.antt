use Rattle.std.proofs.Common.{refl, ◌∙◌}
use Rattle.program_about.proofs.Itself.{told_as}
use Rattle.program_about.proofs.program.about_itself.Goals as goal

pub returns-clause-text : goal.returns-clause-text
returns-clause-text c = c.in_ok-text_of.ensures ∙ told_as _ refl refl c.args.asked
