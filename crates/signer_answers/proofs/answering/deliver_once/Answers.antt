use Rattle.std.proofs.Common.{ℕ, List, ap, inl, subst}
use Rattle.certificates.specs.BlockChecks.{CheckedBlock, IsChecked}
use Rattle.replica_requests.specs.Answers.{block_of}
use Rattle.handover_blocks.specs.Handovers.{handover_mark}
use Rattle.vote_desk.specs.Firsts.{RepliesOnce}
use Rattle.signer_answers.specs.BlockAnswers.{SomeMove}
use Rattle.signer_answers.proofs.answering.deliver_once.Goals as goal

pub returns-in-Ok-clause-reply : goal.returns-in-Ok-clause-reply
returns-in-Ok-clause-reply g c =
    let n = g.N.DeskNaming in
    let b = c.args.block in
    let same = ap (λ (committee : List ℕ). block_of committee b.header b.certificate) c.requires.committee in
    record {
      checked = subst (λ (committee : List ℕ). IsChecked committee b.header b.certificate) c.requires.committee c.header-header.ensures.is_checked;
      remembered = c.requires.remembered;
      good = c.in-Ok.ensures.reply;
      event = inl (
        c.requires.unspared,
        subst (λ (x : CheckedBlock). SomeMove g.D.Disk n.committee n.replica n.opening (RepliesOnce g.D.Disk n.committee n.replica handover_mark x c.in-Ok.reply)) same c.in-Ok.ensures.event,
      );
    }
