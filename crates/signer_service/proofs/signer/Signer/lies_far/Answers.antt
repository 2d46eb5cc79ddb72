use Rattle.std.proofs.Common.{◌≡◌, ◌<◌, ◌≤◌, ◌+◌, ℕ, rules, subst, sym}
use Rattle.replica_requests.specs.declared.request.Request.{Request as Asked}
use Rattle.signer_service.specs.CallAnswers.{IsFar, IsNear, SomeOne}
use Rattle.signer_service.proofs.signer.Signer.lies_far.Goals as goal

pub returns-in-Block-clause-far : goal.returns-in-Block-clause-far
returns-in-Block-clause-far g c = λ t.
    let n = g.N.DeskNaming in
    let furthest = c.args.self.now.reception.now.rules.now.furthest in
    let same : c.header.inside.view ≡ c.in-Block.header.view = search rules in
    subst (λ (a : Asked). IsFar g.D.Disk n.committee n.replica n.opening furthest a) (sym c.in-Block.is)
    (subst (λ (v : ℕ). SomeOne g.D.Disk n.committee n.replica n.opening (λ d. d.core.state.vote_view + furthest < v)) same (c.is_far.ensures.far t))

pub returns-in-Block-clause-near : goal.returns-in-Block-clause-near
returns-in-Block-clause-near g c = λ t.
    let n = g.N.DeskNaming in
    let furthest = c.args.self.now.reception.now.rules.now.furthest in
    let same : c.header.inside.view ≡ c.in-Block.header.view = search rules in
    subst (λ (a : Asked). IsNear g.D.Disk n.committee n.replica n.opening furthest a) (sym c.in-Block.is)
    (subst (λ (v : ℕ). SomeOne g.D.Disk n.committee n.replica n.opening (λ d. v ≤ d.core.state.vote_view + furthest)) same (c.is_far.ensures.near t))
