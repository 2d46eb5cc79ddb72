use Rattle.signer_service.proofs.Exports.{part_told}
use Rattle.signer_service.proofs.signer.Signer.hand_out.Goals as goal

pub returns-in-Ok : goal.returns-in-Ok
returns-in-Ok g c =
    let n = g.N.DeskNaming in
    part_told g.D.Disk n.committee n.replica n.opening c.args.part c.in-Ok.field-0 _ _ _ c.fill.result c.fill.new.response c.new-copy.ensures.bytes c.bytes.ensures c.in-Ok.ensures.ok
    c.fill.ensures
