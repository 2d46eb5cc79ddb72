use Rattle.std.proofs.Common.{◌≡◌, ◌⊎◌, ◌<◌, ◌∙◌, [], List, ℕ, get_or, length, inl, inr, refl, sym, subst, rules}
use Rattle.std.specs.Borrow.{Bor}
use Rattle.base_streams.specs.Streams.{Wrote}
use Rattle.base_streams.proofs.Writing.{wrote_nothing}
use Rattle.program_show.specs.Faults.{IsStopped}
use Rattle.program_show.specs.Words.{paths_in}
use Rattle.program_parts.proofs.Endings.{handed_on}
use Rattle.program_show.proofs.Showings.{item_again, printed_none, shown_more, stopped_memory, stopped_output}
use Rattle.program_show.proofs.program.show_files.Goals as goal

pub loop-path-init : goal.loop-path-init
loop-path-init g c = record { shown = ([], printed_none c.args.committee.now, wrote_nothing (g.W.Sink.text c.args.out.now)); unfailed = refl }

pub loop-path-preserved : goal.loop-path-preserved
loop-path-preserved g c =
    let paths = c.args.paths.now in
    let i = c.loop-path.path-index in
    let path : Bor (List ℕ) = get_or paths i (record { ref_ptr = (0, 0); now = [] }) in
    let inv = c.loop-path.invariant in
    let ok = c.in_ok-is_whole.ensures.ok in
    record {
      shown = shown_more c.args.committee.now paths i path (g.W.Sink.text c.args.out.now) (g.W.Sink.text c.loop-path.out) (g.W.Sink.text c.print_file.new.out) inv.shown.0 c.loop-path.are_whole
          c.in_ok-bytes.bytes.items ok.0 c.in_ok-is_whole.is_whole c.both-are_whole.result c.loop-path-test.true (item_again paths i (record { ref_ptr = (0, 0); now = [] }) c.loop-path-test.true)
          inv.shown.1 inv.shown.2 ok.1 ok.2 c.both-are_whole.ensures;
      unfailed = c.in_ok-is_whole.ensures.no_failure ∙ inv.unfailed;
    }

pub returns-in_err-is_whole-clause-stopped : goal.returns-in_err-is_whole-clause-stopped
returns-in_err-is_whole-clause-stopped g c =
    let paths = c.args.paths.now in
    let committee = c.args.committee.now in
    let i = c.loop-path.path-index in
    let path : Bor (List ℕ) = get_or paths i (record { ref_ptr = (0, 0); now = [] }) in
    let inv = c.loop-path.invariant in
    let fault = c.in_err-is_whole.field-0.0 in
    let before = g.W.Sink.text c.args.out.now in
    let after = g.W.Sink.text c.print_file.new.out in
    handed_on c.from_residual-in_err-is_whole.result (λ f. IsStopped committee (paths_in paths) f before after) fault c.from_residual-in_err-is_whole.ensures.1
    (elim c.in_err-is_whole.ensures.only [
      | inl e ↦ stopped_memory committee (paths_in paths) i fault before after inv.shown.0 c.loop-path.are_whole inv.shown.1
          (subst (λ (o : g.row.W.Denot). Wrote before (g.W.Sink.text o) inv.shown.0) (sym (c.in_err-is_whole.ensures.memory (cc))) inv.shown.2) e
      | inr e ↦
          let cut = c.in_err-is_whole.ensures.output (cc) in
          stopped_output committee paths i path fault before (g.W.Sink.text c.loop-path.out) after inv.shown.0 c.loop-path.are_whole c.in_ok-bytes.bytes.items cut.0 cut.1
          c.loop-path-test.true (item_again paths i (record { ref_ptr = (0, 0); now = [] }) c.loop-path-test.true) inv.shown.1 inv.shown.2 cut.2 cut.3 e
    ])
