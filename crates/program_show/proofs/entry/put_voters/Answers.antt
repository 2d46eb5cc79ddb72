use Rattle.std.proofs.Common.{◌<◌, ◌≤◌, List, [], length, subst, arith}
use Rattle.std.proofs.lemmas.List.{take_all}
use Rattle.certificates.specs.declared.certificate.Endorsement.{Endorsement}
use Rattle.certificates.specs.declared.vote.SignedVote.{SignedVote}
use Rattle.program_show.specs.Entries.{IsVoterPart, IsVotePart}
use Rattle.program_show.specs.Series.{AddsText, AreOf}
use Rattle.program_show.proofs.Longer.{adds_more, adds_none}
use Rattle.program_show.proofs.entry.put_voters.Goals as goal

pub loop-k-init : goal.loop-k-init
loop-k-init c = adds_none (IsVoterPart c.args.committee.now c.args.certificate.now) c.args.text.now.items c.args.marks.now.items

pub loop-k-preserved : goal.loop-k-preserved
loop-k-preserved c =
    let inside : c.loop-k.k < length c.args.certificate.now.entries = omega arith in
    let here = subst (λ (v : SignedVote). AddsText c.loop-k.text.items c.put_voter.new.text.items c.loop-k.marks.items c.put_voter.new.marks.items (IsVotePart c.args.committee.now v))
    c.vote.ensures c.in_ok-put_voter.ensures in
    adds_more (IsVoterPart c.args.committee.now c.args.certificate.now) c.args.certificate.now.entries c.loop-k.k (record { replica = 0; key = 0; signature = [] })
    c.args.text.now.items c.loop-k.text.items c.put_voter.new.text.items c.args.marks.now.items c.loop-k.marks.items c.put_voter.new.marks.items
    inside c.loop-k.invariant here

pub returns : goal.returns
returns c =
    let end : length c.args.certificate.now.entries ≤ c.loop-k.k = omega arith in
    subst (λ (es : List Endorsement). AddsText c.args.text.now.items c.loop-k.text.items c.args.marks.now.items c.loop-k.marks.items (AreOf (IsVoterPart c.args.committee.now c.args.certificate.now) 0 es))
    (take_all c.loop-k.k c.args.certificate.now.entries end) c.loop-k.invariant
