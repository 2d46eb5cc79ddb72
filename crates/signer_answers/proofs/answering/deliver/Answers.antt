use Rattle.std.proofs.Common.{◌∙◌, List, ap, subst, sym}
use Rattle.vote_desk.specs.declared.parts.Left.{Left}
use Rattle.vote_desk.specs.declared.reply.Receipt.{Receipt}
use Rattle.signer_answers.specs.Guards.{IsRemembered}
use Rattle.signer_answers.proofs.answering.deliver.Goals as goal

pub hold-requires-clause-full : goal.hold-requires-clause-full
hold-requires-clause-full g c =
    let some = c.left.ensures.kept in
    record {
      desk = some.desk;
      is_desk = some.is_desk;
      is = sym (ap (λ (l : Left). l.entries) some.is) ∙ c.if-left-eq0.true;
    }

pub hold-requires-clause-remembered : goal.hold-requires-clause-remembered
hold-requires-clause-remembered g c =
    subst (λ (receipts : List Receipt). IsRemembered g.D.Disk g.N.DeskNaming.committee g.N.DeskNaming.replica g.N.DeskNaming.opening receipts c.args.block.certificate)
    (sym c.receipts.ensures) c.requires.remembered
