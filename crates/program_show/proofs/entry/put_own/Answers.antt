use Rattle.std.proofs.Common.{[], Option, refl, sym, subst}
use Rattle.std.proofs.lemmas.List.{append-nil}
use Rattle.certificates.specs.declared.vote.SignedVote.{SignedVote}
use Rattle.log_format.specs.EntryText.{own_of}
use Rattle.program_show.specs.Entries.{IsOwnPart}
use Rattle.program_show.specs.Series.{AddsText}
use Rattle.program_show.proofs.entry.put_own.Goals as goal

pub returns-in-None-default : goal.returns-in-None-default
returns-in-None-default c =
    subst (λ (v : Option SignedVote). AddsText c.args.text.now.items c.args.text.now.items c.args.marks.now.items c.args.marks.now.items (IsOwnPart c.args.committee.now c.args.entry.now (own_of v)))
    (sym c.in-None-default.is-0) ([], [], (refl, refl), sym (append-nil c.args.text.now.items), sym (append-nil c.args.marks.now.items))
