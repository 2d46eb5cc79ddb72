use Rattle.std.proofs.Common.{codes, decimal}
use Rattle.program_show.specs.EndorsementLines.{endorsement_line}
use Rattle.program_show.proofs.Longer.{on_ok, seven_pieces}
use Rattle.program_show.proofs.endorsement.put_front.Goals as goal

pub returns : goal.returns
unfolding endorsement_line
returns c =
    on_ok c.append-4.result _ _ c.append-4.ensures.ok (λ last.
    seven_pieces c.args.text.now.items (codes "endorsement replica ") (decimal c.args.replica) (codes " keys ") (decimal c.args.keys) (codes " signed by key ") (decimal c.args.key) (codes "\n")
    c.append.new.text.items c.put_number.new.text.items c.append-2.new.text.items c.put_number-2.new.text.items c.append-3.new.text.items c.put_number-3.new.text.items c.append-4.new.text.items
    c.in_ok-append.ensures.ok c.in_ok-put_number.ensures.ok c.in_ok-append-2.ensures.ok c.in_ok-put_number-2.ensures.ok c.in_ok-append-3.ensures.ok c.in_ok-put_number-3.ensures.ok last)
