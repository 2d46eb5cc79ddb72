use Rattle.std.proofs.Common.{◌∙◌, ℕ, List, subst, sym}
use Rattle.signer_service.specs.CallAnswers.{AnyTold, AreBlocksServed}
use Rattle.signer_service.proofs.SeveralBlocks.{split}
use Rattle.signer_service.proofs.signer.Signer.ask_blocks.Goals as goal

pub returns-clause-ok : goal.returns-clause-ok
returns-clause-ok g c =
    let n = g.N.DeskNaming in
    let was = c.args.self.now in
    let new = c.ask_more.new.self.caller in
    let is = split c.as_slice.result.now c.first-item.result c.in-len1-up.len_at_least c.first-item.is in
    let placed = rw c.in_ok-told.ensures.same.1 at c.ask_more.ensures.told in
    let more = rw c.in_ok-told.ensures.same.0 at placed in
    subst (λ (bs : List (List ℕ)). AreBlocksServed g.D.Disk n.committee n.replica n.opening AnyTold was.reception.now.rules.now was.reception.now.gate.now.asks (g.K.Approver.tells was.office.now.keeper.now) bs was.caller.session.receipts.items was.caller.shown c.ask_more.new.response new.session.receipts.items new.shown c.ask_more.result)
    (sym (sym c.as_slice.ensures ∙ is))
    (c.ask_block.new.response, c.in_ok-told.told, c.ask_block.new.self.caller.session.receipts.items, c.ask_block.new.self.caller.shown, c.in_ok-told.ensures.ok, more)
