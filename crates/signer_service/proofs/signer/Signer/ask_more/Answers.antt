use Rattle.std.proofs.Common.{◌≡◌, ◌∙◌, ◌++◌, ℕ, List, rules, subst}
use Rattle.signer_service.proofs.SeveralBlocks.{Leads, leads_on, split}
use Rattle.signer_service.proofs.signer.Signer.ask_more.Goals as goal

pub loop-left-preserved : goal.loop-left-preserved
loop-left-preserved g c =
    let n = g.N.DeskNaming in
    let was = c.args.self.now in
    let tells = g.K.Approver.tells was.office.now.keeper.now in
    let at = c.loop-left in
    let inv = at.invariant in
    let x = c.block-item.result in
    let is = split at.left.now x c.in-len1-up.len_at_least c.block-item.is in
    let taken : at.response.status ≡ 200 = search rules in
    let joined : c.append.new.self.items ≡ at.lines.items ++ at.response.body.items = search rules in
    let placed = rw inv.same.1 at c.in-Ok.ensures.ok in
    let served = rw inv.same.0 at placed in
    let leads = subst (λ (bs : List (List ℕ)). Leads g.D.Disk n.committee n.replica n.opening was.reception.now.rules.now was.reception.now.gate.now.asks tells at.lines.items at.response at.told bs at.self.caller.session.receipts.items at.self.caller.shown c.args.response.now c.args.first c.args.blocks.now was.caller.session.receipts.items was.caller.shown)
    is inv.leads in
    let on = leads_on g.D.Disk n.committee n.replica n.opening was.reception.now.rules.now was.reception.now.gate.now.asks tells at.lines.items at.response at.told x _ at.self.caller.session.receipts.items at.self.caller.shown c.args.response.now c.args.first c.args.blocks.now was.caller.session.receipts.items was.caller.shown leads taken c.ask_block.new.response c.in-Ok.next c.ask_block.new.self.caller.session.receipts.items c.ask_block.new.self.caller.shown served in
    record {
      leads = rw joined on;
      same = (c.in-Ok.ensures.same.0 ∙ inv.same.0, c.in-Ok.ensures.same.1 ∙ inv.same.1);
    }
