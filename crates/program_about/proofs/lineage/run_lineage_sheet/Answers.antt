use Rattle.std.proofs.Common.{◌≢◌, ℕ, List}
use Rattle.base_streams.specs.Streams.{Wrote}
use Rattle.program_parts.proofs.Endings.{came_to}
use Rattle.program_about.specs.LineageSheets.{IsLineageSheet}
use Rattle.program_about.proofs.lineage.run_lineage_sheet.Goals as goal

second : {A B : Type 0} → A × B → B
second both = both.1

pub returns-clause-told : goal.returns-clause-told
returns-clause-told g c not =
    second (came_to c.tell.result c.exit_status.result _ _
    (λ s. (s ≢ 2) × ((text : List ℕ) × IsLineageSheet s text × Wrote (g.W.Sink.text c.args.out.now) (g.W.Sink.text c.tell.new.out) text))
    c.exit_status.ensures.done c.exit_status.ensures.told c.tell.ensures.told not).0
