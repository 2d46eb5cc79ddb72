use Rattle.std.proofs.Common.{◌∙◌, Option, subst, sym}
use Rattle.std.specs.Prelude.{IfSome}
use Rattle.std.proofs.lemmas.Bool.{false≢true}
use Rattle.blocks.specs.Headers.{Header}
use Rattle.blocks.specs.Weights.{committee_of}
use Rattle.handover_blocks.specs.Handovers.{IsFirstCommitted, IsHandover}
use Rattle.program_follow.proofs.Handed.{agree_is, conflict_is}
use Rattle.program_follow.proofs.following.follow.Goals as goal

pub returns-then-is_some : goal.returns-then-is_some
returns-then-is_some c = conflict_is c.args.evidence.now _ c.requires.conflict (cc)

pub returns-in-Some : goal.returns-in-Some
returns-in-Some c =
    let e = c.args.evidence.now in (
      record {
        agree = agree_is e _ c.requires.conflict cc;
        first = subst (λ (o : Option Header). IfSome o (IsFirstCommitted (committee_of e.committee) e IsHandover)) c.in-Some.is c.in_ok-block.ensures.first;
      },
      c.is_to.ensures.0 c.if-is_to.true,
    )

pub returns-in-Some-2 : goal.returns-in-Some-2
returns-in-Some-2 c =
    let e = c.args.evidence.now in (
      record {
        agree = agree_is e _ c.requires.conflict cc;
        first = subst (λ (o : Option Header). IfSome o (IsFirstCommitted (committee_of e.committee) e IsHandover)) c.in-Some.is c.in_ok-block.ensures.first;
      },
      λ same. false≢true (sym c.if-is_to.false ∙ c.is_to.ensures.1 same),
    )

pub returns-in-None : goal.returns-in-None
returns-in-None c =
    let agree = agree_is c.args.evidence.now _ c.requires.conflict cc in
    record { agree = agree; none = c.in_ok-block.ensures.none agree c.in-None.is }
