use Rattle.std.proofs.Common.{◌≡◌, ◌↔◌, List, ap, refl, sym, subst}
use Rattle.std.specs.List.{AllPairs, Contains}
use Rattle.blocks.specs.Genesis.{genesis_of}
use Rattle.certificates.specs.VoteOrder.{IsLowerVote}
use Rattle.certificates.specs.declared.vote.SignedVote.{SignedVote}
use Rattle.audit_evidence.specs.Evidence.{IsReportOf}
use Rattle.audit_evidence.specs.Logs.{LogNamesVote}
use Rattle.audit_evidence.specs.NamedVotes.{all_votes}
use Rattle.parallel_verify.specs.Parts.{Part, TellsSteps}
use Rattle.parallel_verify.proofs.Judgings.{entries_all, good_counted, soundness}
use Rattle.parallel_verify.proofs.judging.judge.Goals as goal

pub returns : goal.returns
returns g c = λ l of separates.
    let committee = c.args.committee.now in
    let part = c.args.part.now in
    let bad = c.args.bad.now in
    let votes = c.votes-votes.result.now in
    let value = c.votes-votes.ensures.value in
    let inside = c.part.inside in
    let told : IsReportOf l inside.report = subst (IsReportOf l) (sym (ap (λ (p : Part). p.report) c.part.view_is)) of.report in
    let steps : inside.report.entries ≡ inside.report.frames → TellsSteps (genesis_of committee) l.frames inside.are_legal inside.has_voted =
    subst (λ (p : Part). p.report.entries ≡ p.report.frames → TellsSteps (genesis_of committee) l.frames p.are_legal p.has_voted) (sym c.part.view_is) of.steps in
    let listed = subst (λ (vs : List SignedVote). (v : SignedVote) → Contains vs v ↔ Contains (all_votes part.votes part.certificates) v) (sym value) c.in_ok-listing.ensures in
    let exact : (v : SignedVote) → Contains votes v ↔ LogNamesVote l v = λ v. (λ i. (of.votes v).0 ((listed v).0 i), λ n. (listed v).1 ((of.votes v).1 n)) in
    let kept = c.count_kept-good.ensures in
    record {
      report = told;
      votes = record { votes = votes; rising = subst (AllPairs IsLowerVote) (sym value) c.votes-votes.ensures.in_order.votes_rise; exact = exact; count = refl };
      good = good_counted committee l votes bad inside.report separates exact told c.count_kept-good.result kept.counted;
      sound = soundness committee l votes bad inside.report separates exact told c.count_kept-good.result c.is_sound.result inside.are_legal inside.has_voted steps kept.all c.is_sound.ensures;
      voted = λ sound. (steps (entries_all committee l votes bad inside.report separates exact told sound.entries)).voted;
    }
