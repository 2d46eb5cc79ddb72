use Rattle.std.proofs.Common.{◌++◌, List, ℕ, Option, ap, ◌∙◌, subst}
use Rattle.blocks.specs.Headers.{Header}
use Rattle.certificates.specs.Certificates.{Certificate}
use Rattle.certificates.specs.declared.vote.SignedVote.{SignedVote}
use Rattle.log_format.specs.EntryText.{own_of}
use Rattle.log_format.specs.declared.entry.KeyedSignature.{KeyedSignature}
use Rattle.program_show.specs.Entries.{AreVoterParts, IsOwnPart, act_name}
use Rattle.program_show.specs.Lines.{entry_front, parent_part}
use Rattle.program_show.specs.Series.{AddsText}
use Rattle.program_show.proofs.EntryLines.{entry_added, own_is}
use Rattle.program_show.proofs.Longer.{on_ok}
use Rattle.program_show.proofs.entry.put_entry.Goals as goal

pub returns : goal.returns
returns c =
    let e = c.args.entry.now in
    let signed = ap (λ (v : Option SignedVote). own_of v) c.vote-own.ensures ∙ own_is e 0 in
    let front = c.in_ok-put_front.ensures ∙ ap (λ (t : List ℕ). c.args.text.now.items ++ t)
    (ap (λ (act : List ℕ). entry_front c.args.k act c.block.result.now) (c.act_name.ensures ∙ ap (λ (s : Option KeyedSignature). act_name s) signed)
    ∙ ap (λ (b : Header). entry_front c.args.k (act_name e.own) b) c.block.ensures.value) in
    let own = subst (λ (s : Option KeyedSignature). AddsText c.put_front.new.text.items c.put_own.new.text.items c.args.marks.now.items c.put_own.new.marks.items (IsOwnPart c.args.committee.now e s)) signed c.in_ok-put_own.ensures in
    let parent = c.in_ok-put_parent.ensures ∙ ap (λ (b : Header). c.put_own.new.text.items ++ parent_part b) c.block-2.ensures.value in
    let voters = subst (λ (x : Certificate). AddsText c.put_parent.new.text.items c.put_voters.new.text.items c.put_own.new.marks.items c.put_voters.new.marks.items (AreVoterParts c.args.committee.now x)) c.certificate.ensures.value c.in_ok-put_voters.ensures in
    on_ok c.append.result _ _ c.append.ensures.ok (λ last.
    entry_added c.args.committee.now c.args.k e c.args.text.now.items c.put_front.new.text.items c.put_own.new.text.items c.put_parent.new.text.items c.put_voters.new.text.items c.append.new.text.items
    c.args.marks.now.items c.put_own.new.marks.items c.put_voters.new.marks.items front own parent voters last)
