use Rattle.std.proofs.Common.{◌≡◌, ◌++◌, ℕ, List, ap, sym, subst}
use Rattle.certificates.specs.declared.vote.SignedVote.{SignedVote}
use Rattle.audit_evidence.specs.Gathering.{Gains, Gathered}
use Rattle.audit_evidence.proofs.Gatherings.{grown_vote}
use Rattle.watch_collector.specs.Growing.{IsBadVote}
use Rattle.watch_collector.proofs.Judging.{gained_second, judged_bad}
use Rattle.watch_collector.proofs.growing.Growing.add_bad.Goals as goal

pub invariant_of-self-2 : goal.invariant_of-self-2
invariant_of-self-2 c =
    let under = ap (λ (g : Gathered). g.committee) c.self.view_is in
    judged_bad c.self.inside.committee c.self.inside.headers c.self.inside.good c.self.inside.bad c.insert.new.self c.args.vote.now c.self.invariant
    (subst (λ (v : SignedVote). Gains c.self.inside.bad c.insert.new.self (λ x. x ≡ v)) c.in_ok-again.ensures c.in_ok-insert.ensures.ok)
    (subst (λ (k : List ℕ). IsBadVote k c.args.vote.now) (sym under) c.requires)

pub returns-clause-ok : goal.returns-clause-ok
returns-clause-ok c =
    grown_vote c.self.inside.committee c.self.inside.headers (c.self.inside.good ++ c.self.inside.bad) (c.self.inside.good ++ c.insert.new.self) c.args.self.now c.args.vote.now c.self.view_is
    (gained_second c.self.inside.good c.self.inside.bad c.insert.new.self (λ x. x ≡ c.args.vote.now)
    (subst (λ (v : SignedVote). Gains c.self.inside.bad c.insert.new.self (λ x. x ≡ v)) c.in_ok-again.ensures c.in_ok-insert.ensures.ok))
