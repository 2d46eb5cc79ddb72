use Rattle.std.proofs.Common.{◌≡◌, length}
use Rattle.signer_service.proofs.SeveralBlocks.{Leads}
use Rattle.signer_service.proofs.signer.Signer.ask_more.Given as goal

abbrev pub invariant-loop-left : goal.invariant-loop-left
invariant-loop-left g l =
    let n = g.N.DeskNaming in
    let was = l.fn.self in
    record {
      leads : Leads g.D.Disk n.committee n.replica n.opening was.reception.now.rules.now was.reception.now.gate.now.asks (g.K.Approver.tells was.office.now.keeper.now) l.lines.items l.response l.told l.left l.self.caller.session.receipts.items l.self.caller.shown l.fn.response l.fn.first l.fn.blocks was.caller.session.receipts.items was.caller.shown;
      same : (l.self.office ≡ was.office) × (l.self.reception ≡ was.reception);
    }

abbrev pub decreases-loop-left : goal.decreases-loop-left
decreases-loop-left g l = length l.left
