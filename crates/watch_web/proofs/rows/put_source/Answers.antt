use Rattle.std.proofs.Common.{◌≡◌, ◌++◌}
use Rattle.watch_report.specs.Sources.{source_state_of}
use Rattle.watch_web.specs.Rows.{remark_text, source_row}
use Rattle.watch_web.proofs.Pieces.{by_seven}
use Rattle.watch_web.proofs.rows.put_source.Goals as goal

pub returns : goal.returns
unfolding source_row
returns c =
    let remarked : c.put_remark.new.text.items ≡ c.append-3.new.text.items ++ remark_text (source_state_of c.args.every c.args.second c.args.source.now) c.args.source.now.bad_votes =
    rw (← c.state.ensures) c.in_ok-put_remark.ensures in
    by_seven _ _ _ _ _ _ _ _ _ _ _ _ _ _ _
    c.in_ok-append.ensures.ok c.in_ok-put_shown.ensures c.in_ok-append-2.ensures.ok c.in_ok-put_number.ensures.ok c.in_ok-append-3.ensures.ok remarked c.in_ok-put_cells.ensures
