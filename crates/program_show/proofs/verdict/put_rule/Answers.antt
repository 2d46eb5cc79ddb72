use Rattle.std.proofs.Common.{codes, decimal}
use Rattle.program_show.specs.Lines.{rule_line}
use Rattle.program_show.proofs.Longer.{five_pieces, on_ok}
use Rattle.program_show.proofs.verdict.put_rule.Goals as goal

pub returns : goal.returns
unfolding rule_line
returns c =
    on_ok c.append-3.result _ _ c.append-3.ensures.ok (λ last.
    five_pieces c.args.text.now.items (codes "verdict rule ") (decimal c.args.rule) (codes " replica ") (decimal c.args.replica) (codes "\n") c.append.new.text.items c.put_number.new.text.items
    c.append-2.new.text.items c.put_number-2.new.text.items c.append-3.new.text.items
    c.in_ok-append.ensures.ok c.in_ok-put_number.ensures.ok c.in_ok-append-2.ensures.ok c.in_ok-put_number-2.ensures.ok last)
