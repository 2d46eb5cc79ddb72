use Rattle.std.proofs.Common.{◌≡◌, ◌∙◌, rules, subst, sym}
use Rattle.std.specs.Prelude.{Option, None, MatchOption}
use Rattle.certificates.specs.declared.vote.SignedVote.{SignedVote}
use Rattle.log_format.specs.EntryText.{Entry}
use Rattle.log_format.proofs.EntryLaws.{one_spelling}
use Rattle.signer_answers.specs.Lookings.{EntryShows, EntryShowsNone}
use Rattle.signer_answers.proofs.looking.found_in.Goals as goal

pub returns-in-Ok-None-clause-shown : goal.returns-in-Ok-None-clause-shown
returns-in-Ok-None-clause-shown g c = λ e spelled.
    let n = g.N.DeskNaming in
    let found = c.in-Ok.ensures.found in
    let entry = c.in-Ok.entry in
    let same : entry ≡ e = one_spelling entry e found.entry spelled.entry (sym found.text ∙ spelled.text) in
    let is : c.in-Ok-None.field-0 ≡ None = search rules in
    subst (λ (f : Entry). EntryShowsNone g.D.Disk n.committee n.replica n.opening c.args.owner f) same
    (subst (λ (o : Option SignedVote). MatchOption o (EntryShowsNone g.D.Disk n.committee n.replica n.opening c.args.owner entry) (EntryShows g.D.Disk n.committee n.replica n.opening c.args.owner entry))
    is c.in-Ok-None.ensures.shown)
