use Rattle.std.proofs.Common.{◌++◌, List, ℕ, refl, subst}
use Rattle.base_streams.specs.Streams.{WrotePart}
use Rattle.program_show.specs.Lines.{path_line}
use Rattle.program_show.proofs.printing.print_file.Goals as goal

pub returns-clause-output : goal.returns-clause-output
returns-clause-output g c _ = (
  path_line c.args.path.now ++ c.in_ok-page.page.text.items,
  c.in_ok-page.page.is_whole,
  record { shown = c.in_ok-page.page.text.items; is_shown = c.in_ok-page.ensures.shown; text_is = refl },
  subst (λ (t : List ℕ). WrotePart (g.W.Sink.text c.args.out.now) (g.W.Sink.text c.print_page.new.out) (path_line c.args.path.now ++ t)) c.deref.ensures.value c.in-Err.ensures.err,
)
