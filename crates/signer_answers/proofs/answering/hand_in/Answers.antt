use Rattle.std.proofs.Common.{◌≡◌, ◌∙◌, List, ap, inl, inr, rules, subst, sym}
use Rattle.std.specs.Prelude.{Option, Some, None, MatchOption}
use Rattle.vote_desk.specs.Deliveries.{with_receipt}
use Rattle.vote_desk.specs.declared.reply.Answer.{Answer}
use Rattle.vote_desk.specs.declared.reply.Answer.TheVariants.{Held}
use Rattle.vote_desk.specs.declared.reply.Receipt.{Receipt}
use Rattle.blocks.specs.Headers.{Header}
use Rattle.signer_answers.specs.BlockAnswers.{IsReplyWithin, IsToldPlainly}
use Rattle.signer_answers.specs.Guards.{IsNotVotedBefore, IsUnreadAs, IsVotedBefore}
use Rattle.signer_answers.proofs.answering.hand_in.Goals as goal

pub returns-in-Err-clause-told : goal.returns-in-Err-clause-told
returns-in-Err-clause-told g c = inl c.in-Err.ensures.refused

pub returns-in-Ok-Some-clause-told : goal.returns-in-Ok-Some-clause-told
returns-in-Ok-Some-clause-told g c =
    let n = g.N.DeskNaming in
    let tells = g.K.Approver.tells c.args.office.now.keeper.now in
    let b = c.args.block in
    let receipts = c.args.session.now.receipts.items in
    let reply = c.in-Ok.reply in
    let held : reply.act ≡ Held = search rules in
    let same : c.receipts.result.now ≡ receipts = c.receipts.ensures ∙ c.in-Ok.ensures.receipt ∙ ap (λ (a : Answer). with_receipt receipts a) held in
    let is : c.in-Ok-Some.field-0 ≡ Some c.in-Ok-Some.receipt = search rules in
    let voted : IsVotedBefore g.D.Disk n.committee n.replica n.opening c.receipts.result.now c.named.result.now c.in-Ok-Some.receipt =
    subst (λ (o : Option Receipt). MatchOption o (IsNotVotedBefore g.D.Disk n.committee n.replica n.opening c.receipts.result.now c.named.result.now) (IsVotedBefore g.D.Disk n.committee n.replica n.opening c.receipts.result.now c.named.result.now))
    is c.in-Ok-Some.ensures.told in (
      subst (λ (a : Answer). IsReplyWithin g.D.Disk n.committee n.replica n.opening tells receipts b.header b.certificate (record { act = a; committed = reply.committed })) held c.in-Ok.ensures.reply,
      subst (λ (h : Header). IsVotedBefore g.D.Disk n.committee n.replica n.opening receipts h c.in-Ok-Some.receipt) c.named.ensures.value
          (subst (λ (rs : List Receipt). IsVotedBefore g.D.Disk n.committee n.replica n.opening rs c.named.result.now c.in-Ok-Some.receipt) same voted),
    )

pub returns-in-Ok-None-clause-told : goal.returns-in-Ok-None-clause-told
returns-in-Ok-None-clause-told g c =
    let n = g.N.DeskNaming in
    let b = c.args.block in
    let receipts = c.args.session.now.receipts.items in
    let reply = c.in-Ok.reply in
    let held : reply.act ≡ Held = search rules in
    let same : c.receipts.result.now ≡ receipts = c.receipts.ensures ∙ c.in-Ok.ensures.receipt ∙ ap (λ (a : Answer). with_receipt receipts a) held in
    let is : c.in-Ok-None.field-0 ≡ None = search rules in
    let unvoted : IsNotVotedBefore g.D.Disk n.committee n.replica n.opening c.receipts.result.now c.named.result.now =
    subst (λ (o : Option Receipt). MatchOption o (IsNotVotedBefore g.D.Disk n.committee n.replica n.opening c.receipts.result.now c.named.result.now) (IsVotedBefore g.D.Disk n.committee n.replica n.opening c.receipts.result.now c.named.result.now))
    is c.in-Ok-None.ensures.told in
    let none : IsNotVotedBefore g.D.Disk n.committee n.replica n.opening receipts b.header =
    subst (λ (h : Header). IsNotVotedBefore g.D.Disk n.committee n.replica n.opening receipts h) c.named.ensures.value
    (subst (λ (rs : List Receipt). IsNotVotedBefore g.D.Disk n.committee n.replica n.opening rs c.named.result.now) same unvoted) in
    (c.in-Ok.ensures.reply, subst (λ (a : Answer). IsToldPlainly g.D.Disk n.committee n.replica n.opening receipts b.header a) (sym held) none)

pub returns-in-Err-vote_for-clause-told : goal.returns-in-Err-vote_for-clause-told
returns-in-Err-vote_for-clause-told g c =
    let n = g.N.DeskNaming in
    let tells = g.K.Approver.tells c.args.office.now.keeper.now in
    let b = c.args.block in
    let receipts = c.args.session.now.receipts.items in
    let reply = c.in-Ok.reply in
    let held : reply.act ≡ Held = search rules in
    let same : c.receipts.result.now ≡ receipts = c.receipts.ensures ∙ c.in-Ok.ensures.receipt ∙ ap (λ (a : Answer). with_receipt receipts a) held in
    let unread : IsUnreadAs g.D.Disk n.committee n.replica n.opening receipts b.header.view c.in-Err-vote_for.refusal =
    subst (λ (h : Header). IsUnreadAs g.D.Disk n.committee n.replica n.opening receipts h.view c.in-Err-vote_for.refusal) c.named.ensures.value
    (subst (λ (rs : List Receipt). IsUnreadAs g.D.Disk n.committee n.replica n.opening rs c.named.result.now.view c.in-Err-vote_for.refusal) same c.in-Err-vote_for.ensures.refused) in
    inr (inr (record {
      committed = reply.committed;
      held = subst (λ (a : Answer). IsReplyWithin g.D.Disk n.committee n.replica n.opening tells receipts b.header b.certificate (record { act = a; committed = reply.committed })) held c.in-Ok.ensures.reply;
      unread = unread;
    }))
