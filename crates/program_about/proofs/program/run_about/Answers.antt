use Rattle.std.proofs.Common.{ℕ, List}
use Rattle.base_streams.specs.Streams.{Wrote}
use Rattle.program_parts.proofs.Endings.{came_to}
use Rattle.program_about.specs.About.{Tells}
use Rattle.program_help.specs.Helps.{texts}
use Rattle.program_about.proofs.program.run_about.Goals as goal

pub returns-clause-told : goal.returns-clause-told
returns-clause-told g c not =
    (came_to c.tell.result c.exit_status.result _ _
    (λ s. (text : List ℕ) × Tells (texts c.args.words.now) s text × Wrote (g.W.Sink.text c.args.out.now) (g.W.Sink.text c.tell.new.out) text)
    c.exit_status.ensures.done c.exit_status.ensures.told c.tell.ensures.told not).0
