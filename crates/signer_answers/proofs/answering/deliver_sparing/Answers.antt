use Rattle.std.proofs.Common.{ℕ, List, ap, inr, subst}
use Rattle.certificates.specs.BlockChecks.{CheckedBlock, IsChecked}
use Rattle.replica_requests.specs.Answers.{block_of}
use Rattle.vote_desk.specs.Sparing.{RepliesSparing}
use Rattle.signer_answers.specs.BlockAnswers.{SomeMove}
use Rattle.signer_answers.proofs.answering.deliver_sparing.Goals as goal

pub returns-in-Ok-clause-reply : goal.returns-in-Ok-clause-reply
returns-in-Ok-clause-reply g c =
    let n = g.N.DeskNaming in
    let b = c.args.block in
    let spare = c.args.spare.now in
    let same = ap (λ (committee : List ℕ). block_of committee b.header b.certificate) c.requires.committee in
    record {
      checked = subst (λ (committee : List ℕ). IsChecked committee b.header b.certificate) c.requires.committee c.header-header.ensures.is_checked;
      remembered = c.requires.remembered;
      good = c.in-Ok.ensures.reply;
      event = inr (inr (inr (
        spare,
        c.requires.spared,
        subst (λ (x : CheckedBlock). SomeMove g.D.Disk n.committee n.replica n.opening (RepliesSparing g.D.Disk n.committee n.replica spare x c.in-Ok.reply)) same c.in-Ok.ensures.event,
      )));
    }

pub returns-in-Err-clause-refused : goal.returns-in-Err-clause-refused
returns-in-Err-clause-refused g c =
    let b = c.args.block in
    record {
      checked = subst (λ (committee : List ℕ). IsChecked committee b.header b.certificate) c.requires.committee c.header-header.ensures.is_checked;
      remembered = c.requires.remembered;
      refused = inr (inr (inr (c.args.spare.now, c.requires.spared, c.in-Err.ensures.refused)));
    }
