use Rattle.std.proofs.Common.{◌≡◌, ◌↔◌, ◌+◌, ◌∙◌, ℕ, List, length, take, arith, sym, subst}
use Rattle.std.proofs.lemmas.Bool.{false≢true}
use Rattle.std.proofs.lemmas.List.{take_all}
use Rattle.certificates.specs.declared.vote.SignedVote.{SignedVote}
use Rattle.parallel_verify.specs.JudgedSources.{AreAllKept, AreCounted, IsKept}
use Rattle.parallel_verify.proofs.Judgings.{all_next, all_same, kept_next, kept_same}
use Rattle.parallel_verify.proofs.judging.count_kept.Goals.{then-not-contains, else-not-contains}
use Rattle.parallel_verify.proofs.judging.count_kept.Goals as goal

pub loop-vote-preserved : goal.loop-vote-preserved
loop-vote-preserved c =
    let votes = c.args.votes.now in
    let bad = c.args.bad.now in
    let i = c.loop-vote.vote-index in
    let x = c.vote-item.result in
    let n = c.loop-vote.count in
    let inv = c.loop-vote.invariant in
    let few = inv.few in
    let l = c.loop-vote-test.true in
    let is = c.vote-item.is in
    let count = c.if-not-contains.count in
    record {
      few = elim c.if-not-contains.branch [ then-not-contains w ↦ omega (arith, w.count-is, few) | else-not-contains w ↦ omega (arith, w.count-is, few) ];
      counted = elim c.if-not-contains.branch [
        | then-not-contains w ↦ subst (AreCounted (IsKept (take (i + 1) votes) bad)) (sym w.count-is) (kept_next votes bad c.requires i x l is n (λ b. false≢true (sym (w.if-not-contains.true) ∙ c.contains.ensures.1 b)) inv.counted)
        | else-not-contains w ↦ subst (AreCounted (IsKept (take (i + 1) votes) bad)) (sym w.count-is) (kept_same votes bad c.requires i x l is n (c.contains.ensures.0 (w.if-not-contains.false)) inv.counted)
      ];
      all = elim c.if-not-contains.branch [
        | then-not-contains w ↦ subst (λ (m : ℕ). (m ≡ i + 1) ↔ AreAllKept (take (i + 1) votes) bad) (sym w.count-is) (all_next votes bad c.requires i x l is n (λ b. false≢true (sym (w.if-not-contains.true) ∙ c.contains.ensures.1 b)) inv.all)
        | else-not-contains w ↦ subst (λ (m : ℕ). (m ≡ i + 1) ↔ AreAllKept (take (i + 1) votes) bad) (sym w.count-is) (all_same votes bad c.requires i x l is n (c.contains.ensures.0 (w.if-not-contains.false)) few)
      ];
    }

pub returns-clause-all : goal.returns-clause-all
returns-clause-all c =
    let votes = c.args.votes.now in
    let i = c.loop-vote.vote-index in
    let size : i ≡ length votes = omega (arith, c.loop-vote-test.false, c.loop-vote.auto.vote-index-end) in
    let whole = take_all i votes (omega (arith, size)) in
    subst (λ (m : ℕ). (c.loop-vote.count ≡ m) ↔ AreAllKept votes c.args.bad.now) size
    (subst (λ (vs : List SignedVote). (c.loop-vote.count ≡ i) ↔ AreAllKept vs c.args.bad.now) whole c.loop-vote.invariant.all)
