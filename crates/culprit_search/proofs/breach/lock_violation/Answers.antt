use Rattle.std.proofs.Common.{ap, subst, ◌∙◌, arith}
use Rattle.blocks.specs.Headers.{Header}
use Rattle.culprit_search.specs.Searches.{IsFoundAt, NoneIsAt}
use Rattle.culprit_search.proofs.Breaches.{no_parent, none_gives, not_older, too_old}
use Rattle.culprit_search.proofs.breach.lock_violation.Goals as goal

pub returns-in_err-parent : goal.returns-in_err-parent
returns-in_err-parent c =
    let e = c.args.evidence.now in
    let found = c.in_ok-earlier.ensures.block in
    let none = subst (λ (h : Header). NoneIsAt e.headers h.parent h.parent_view) c.header.ensures c.in_err-parent.ensures in
    none_gives _ _ _ c.from_residual-in_err-parent.ensures (no_parent e c.args.v.now c.args.w.now c.in_ok-earlier.earlier c.requires.is_evidence found none)

pub returns-else-later-header : goal.returns-else-later-header
returns-else-later-header c =
    let e = c.args.evidence.now in
    let p = c.in_ok-parent.parent in
    let found = c.in_ok-earlier.ensures.block in
    let parent = subst (λ (h : Header). IsFoundAt e.headers h.parent h.parent_view p) c.header.ensures c.in_ok-parent.ensures in
    let read = ap (λ (h : Header). h.parent_view) (c.behind-parent.view_is ∙ c.header-2.ensures) in
    let given = ap (λ (h : Header). h.parent_view) c.later.view_is in
    not_older e c.args.v.now c.args.w.now c.in_ok-earlier.earlier p c.args.later.now c.requires.is_evidence found parent c.requires.later (omega arith)

pub returns-then-v-later : goal.returns-then-v-later
returns-then-v-later c =
    let given = ap (λ (h : Header). h.parent_view) c.later.view_is in
    too_old c.args.evidence.now c.args.v.now c.args.w.now c.args.later.now c.requires.is_evidence c.requires.later (omega arith)
