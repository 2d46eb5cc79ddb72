use Rattle.base_text.proofs.Pieces.{on_ok_too}
use Rattle.program_follow.proofs.RenewalLinesPut.{line_put}
use Rattle.program_follow.proofs.renewing.put_renews_not.Goals as goal

pub returns : goal.returns
returns c =
    on_ok_too c.append-2.result _ _
    (line_put c.args.text.now.items c.append.new.text.items c.put_named.new.text.items c.put_refused_slot.new.text.items c.append-2.new.text.items c.args.refusal c.args.slot
    c.in_ok-append.ensures.ok c.in_ok-put_named.ensures c.in_ok-put_refused_slot.ensures)
    c.append-2.ensures.ok
