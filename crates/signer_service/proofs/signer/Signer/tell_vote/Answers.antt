use Rattle.std.proofs.Common.{◌≡◌, Option, Some, None, inl, inr, rules, subst}
use Rattle.vote_desk.specs.Votes.{IsVoteFound}
use Rattle.vote_desk.specs.declared.reply.Receipt.{Receipt}
use Rattle.signer_service.specs.CallAnswers.{SomeOne}
use Rattle.signer_service.proofs.signer.Signer.tell_vote.Goals as goal

pub returns-in-Ok-Some : goal.returns-in-Ok-Some
returns-in-Ok-Some g c =
    let n = g.N.DeskNaming in
    let found : c.in-Ok-Some.field-0 ≡ Some c.in-Ok-Some.receipt = search rules in
    inl (
      c.in-Ok-Some.receipt,
      subst (λ (f : Option Receipt). SomeOne g.D.Disk n.committee n.replica n.opening (λ d. IsVoteFound g.D.Disk.bytes n.replica d.log c.args.view f)) found c.in-Ok-Some.ensures.ok,
      c.tell_receipt.ensures,
    )

pub returns-in-Ok-None : goal.returns-in-Ok-None
returns-in-Ok-None g c =
    let n = g.N.DeskNaming in
    let found : c.in-Ok-None.field-0 ≡ None = search rules in
    let none = subst (λ (f : Option Receipt). SomeOne g.D.Disk n.committee n.replica n.opening (λ d. IsVoteFound g.D.Disk.bytes n.replica d.log c.args.view f)) found c.in-Ok-None.ensures.ok in
    inr (inl (none, c.tell_missing.ensures))
