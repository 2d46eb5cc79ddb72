use Rattle.std.proofs.Common.{ℕ, List, inl, inr, subst}
use Rattle.certificates.specs.BlockChecks.{IsChecked}
use Rattle.signer_answers.proofs.answering.hold.Goals as goal

pub returns-in-Ok-clause-reply : goal.returns-in-Ok-clause-reply
returns-in-Ok-clause-reply g c =
    let b = c.args.block in
    record {
      checked = subst (λ (committee : List ℕ). IsChecked committee b.header b.certificate) c.requires.committee c.header-header.ensures.is_checked;
      remembered = c.requires.remembered;
      good = c.in-Ok.ensures.reply;
      event = inr (inr (inl (c.requires.full, c.in-Ok.ensures.held, c.in-Ok.ensures.event)));
    }

pub returns-in-Err-clause-refused : goal.returns-in-Err-clause-refused
returns-in-Err-clause-refused g c =
    let b = c.args.block in
    record {
      checked = subst (λ (committee : List ℕ). IsChecked committee b.header b.certificate) c.requires.committee c.header-header.ensures.is_checked;
      remembered = c.requires.remembered;
      refused = inr (inr (inl (c.requires.full, c.in-Err.ensures.refused)));
    }
