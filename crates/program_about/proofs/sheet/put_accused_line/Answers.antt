use Rattle.std.proofs.Common.{codes, decimal}
use Rattle.program_about.specs.Sheets.{accused_line}
use Rattle.program_about.proofs.Pieces.{on_ok, three_pieces}
use Rattle.program_about.proofs.sheet.put_accused_line.Goals as goal

pub returns : goal.returns
unfolding accused_line
returns c =
    on_ok c.append-2.result _ _ c.append-2.ensures.ok (λ last.
    three_pieces c.args.text.now.items (codes "STATEMENT ON A VERDICT\n\nReplica ") (decimal c.args.replica) (codes " of the committee whose chain id is\n\n")
    c.append.new.text.items c.put_number.new.text.items c.append-2.new.text.items c.in_ok-append.ensures.ok c.in_ok-put_number.ensures.ok last)
