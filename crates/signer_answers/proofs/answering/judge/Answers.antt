use Rattle.std.proofs.Common.{List, ap, subst}
use Rattle.blocks.specs.Headers.{Header}
use Rattle.certificates.specs.BlockChecks.{CheckedBlock}
use Rattle.certificates.specs.Certificates.{Certificate}
use Rattle.vote_desk.specs.declared.reply.Receipt.{Receipt}
use Rattle.signer_answers.specs.BlockAnswers.{IsBlockTold}
use Rattle.signer_answers.specs.Guards.{IsRemembered}
use Rattle.signer_answers.proofs.BlockTold.{block_told}
use Rattle.signer_answers.proofs.answering.judge.Goals as goal

pub hand_in-requires-clause-remembered : goal.hand_in-requires-clause-remembered
hand_in-requires-clause-remembered g c =
    let n = g.N.DeskNaming in
    subst (λ (rs : List Receipt). IsRemembered g.D.Disk n.committee n.replica n.opening rs c.in-Ok.block.certificate) c.receipts.ensures
    (c.in-Ok-false.ensures.remembered c.in-Ok-false.field-0-test)

pub returns-in-Ok-false-clause-answer : goal.returns-in-Ok-false-clause-answer
returns-in-Ok-false-clause-answer g c =
    let n = g.N.DeskNaming in
    let tells = g.K.Approver.tells c.args.office.now.keeper.now in
    let receipts = c.args.caller.now.session.receipts.items in
    let header = ap (λ (b : CheckedBlock). b.header) c.in-Ok.ensures.ok in
    let certificate = ap (λ (b : CheckedBlock). b.certificate) c.in-Ok.ensures.ok in
    block_told g.D.Disk n.committee n.replica n.opening tells receipts c.args.header c.args.certificate c.hand_in.result
    (subst (λ (h : Header). IsBlockTold g.D.Disk n.committee n.replica n.opening tells receipts h c.args.certificate c.hand_in.result) header
    (subst (λ (x : Certificate). IsBlockTold g.D.Disk n.committee n.replica n.opening tells receipts c.in-Ok.block.header x c.hand_in.result) certificate c.hand_in.ensures.told))
