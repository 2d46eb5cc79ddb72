use Rattle.std.proofs.Common.{◌≡◌, ◌<◌, ◌≤◌, ◌-◌, ap, arith, rules}
use Rattle.vote_desk.specs.declared.parts.DeskStatus.{DeskStatus}
use Rattle.signer_service.proofs.Desks.{also_so}
use Rattle.signer_service.proofs.signer.Signer.is_far.Goals as goal

pub returns-clause-far : goal.returns-clause-far
returns-clause-far g c = λ t.
    let furthest = c.args.self.now.reception.now.rules.now.furthest in
    let above = c.saturating_sub.result in
    let view = c.args.view in
    let at = c.status-at.result.vote_view in
    let lt : furthest < above = search rules in
    let is : above ≡ view - at = search rules in
    also_so _ _ _ (λ d same. let it = ap (λ (s : DeskStatus). s.vote_view) same in omega (arith, lt, is, it)) c.status-at.ensures

pub returns-clause-near : goal.returns-clause-near
returns-clause-near g c = λ t.
    let furthest = c.args.self.now.reception.now.rules.now.furthest in
    let above = c.saturating_sub.result in
    let view = c.args.view in
    let at = c.status-at.result.vote_view in
    let le : above ≤ furthest = search rules in
    let is : above ≡ view - at = search rules in
    also_so _ _ _ (λ d same. let it = ap (λ (s : DeskStatus). s.vote_view) same in omega (arith, le, is, it)) c.status-at.ensures
