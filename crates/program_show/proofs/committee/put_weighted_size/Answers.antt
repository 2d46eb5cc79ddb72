use Rattle.std.proofs.Common.{codes, decimal}
use Rattle.program_show.specs.Lines.{weighted_size_line}
use Rattle.program_show.proofs.Longer.{on_ok, seven_pieces}
use Rattle.program_show.proofs.committee.put_weighted_size.Goals as goal

pub returns : goal.returns
unfolding weighted_size_line
returns c =
    on_ok c.append-4.result _ _ c.append-4.ensures.ok (λ last.
    seven_pieces c.args.text.now.items (codes "committee n ") (decimal c.args.n) (codes " weight ") (decimal c.args.total) (codes " quorum ") (decimal c.args.quorum) (codes "\n")
    c.append.new.text.items c.put_number.new.text.items c.append-2.new.text.items c.put_number-2.new.text.items c.append-3.new.text.items c.put_number-3.new.text.items c.append-4.new.text.items
    c.in_ok-append.ensures.ok c.in_ok-put_number.ensures.ok c.in_ok-append-2.ensures.ok c.in_ok-put_number-2.ensures.ok c.in_ok-append-3.ensures.ok c.in_ok-put_number-3.ensures.ok last)
