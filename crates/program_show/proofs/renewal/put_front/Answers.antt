use Rattle.std.proofs.Common.{codes, decimal}
use Rattle.program_show.specs.RenewalLines.{renewal_line}
use Rattle.program_show.proofs.Longer.{on_ok, three_pieces}
use Rattle.program_show.proofs.renewal.put_front.Goals as goal

pub returns : goal.returns
unfolding renewal_line
returns c =
    on_ok c.append-2.result _ _ c.append-2.ensures.ok (λ last.
    three_pieces c.args.text.now.items (codes "renewal signatures ") (decimal c.args.count) (codes "\n") c.append.new.text.items c.put_number.new.text.items c.append-2.new.text.items
    c.in_ok-append.ensures.ok c.in_ok-put_number.ensures.ok last)
