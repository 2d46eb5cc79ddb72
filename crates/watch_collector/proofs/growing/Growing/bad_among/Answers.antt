use Rattle.std.proofs.Common.{◌≡◌, ◌∙◌, ◌+◌, ℕ, List, inl, inr, sym, ap, subst, take, arith}
use Rattle.std.specs.List.{Contains}
use Rattle.std.proofs.lemmas.Bool.{false≢true}
use Rattle.certificates.specs.Votes.{IsGoodVote}
use Rattle.audit_evidence.specs.Gathering.{Gathered}
use Rattle.watch_collector.specs.Growing.{AreBadAmong, IsBadVote}
use Rattle.watch_collector.proofs.Judging.{bad_more, good_more, in_both}
use Rattle.watch_collector.proofs.growing.Growing.bad_among.Goals.{then-contains, else-contains}
use Rattle.watch_collector.proofs.growing.Growing.bad_among.Goals as goal

pub loop-vote-preserved : goal.loop-vote-preserved
loop-vote-preserved c =
    let committee = c.args.self.now.committee in
    let under : c.self.inside.committee ≡ committee = ap (λ (g : Gathered). g.committee) c.self.view_is in
    let votes = c.args.votes.now in
    let i = c.loop-vote.vote-index in
    let n = c.loop-vote.bad in
    let x = c.vote-item.result in
    let few = c.loop-vote.invariant.few in
    record {
      so_far = elim c.if-contains.branch [
        | then-contains w ↦
            subst (AreBadAmong committee (take (i + 1) votes)) (sym w.bad-is)
            (bad_more committee votes i n x c.loop-vote-test.true c.vote-item.is c.loop-vote.invariant.so_far
            (subst (λ (k : List ℕ). IsBadVote k x) under (c.self.invariant.none_good x (c.contains.ensures.0 w.if-contains.true))))
        | else-contains w ↦
            subst (AreBadAmong committee (take (i + 1) votes)) (sym w.bad-is)
            (good_more committee votes i n x c.loop-vote-test.true c.vote-item.is c.loop-vote.invariant.so_far
            (subst (λ (k : List ℕ). IsGoodVote k x) under
            (elim ((in_both c.self.inside.good c.self.inside.bad x).0
            (subst (λ (g : Gathered). Contains g.votes x) (sym c.self.view_is) (c.requires x (i, c.loop-vote-test.true, sym c.vote-item.is)))) [
              | inl g ↦ c.self.invariant.all_good x g
              | inr b ↦ absurd (false≢true (sym w.if-contains.false ∙ c.contains.ensures.1 b))
            ])))
      ];
      few = elim c.if-contains.branch [ then-contains w ↦ omega (arith, w.bad-is, few) | else-contains w ↦ omega (arith, w.bad-is, few) ];
    }
