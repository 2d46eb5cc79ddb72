use Rattle.std.proofs.Common.{List, ◌∙◌, subst}
use Rattle.std.specs.List.{All, AllPairs}
use Rattle.blocks.specs.Headers.{Header, HasLowerId}
use Rattle.audit_evidence.specs.Evidence.{IsNotBelowParent}
use Rattle.audit_evidence.proofs.HeaderOrder.{ids_rise, none_below}
use Rattle.audit_evidence.proofs.Taking.{none_taken, one_taken, all_taken}
use Rattle.audit_evidence.proofs.headers.HeaderSet.copies.Goals as goal

pub loop-header-init : goal.loop-header-init
loop-header-init c = none_taken c.new-copies.result.items c.args.self.now c.into_iter-header-iterator.result c.new-copies.ensures.items (c.into_iter-header-iterator.ensures.into_iter_gives ∙ c.values-header-items.ensures.rest ∙ c.self.view_is)

pub loop-header-preserved : goal.loop-header-preserved
loop-header-preserved c = one_taken c.loop-header.copies.items c.push.new.self.items c.args.self.now c.loop-header.header-iterator c.next.new.self c.in-Some.header.now c.get.result.now c.in_ok-push.ensures.items c.get.ensures c.in-Some.ensures.steps c.loop-header.invariant

pub returns-clause-headers : goal.returns-clause-headers
returns-clause-headers c = all_taken c.loop-header.copies.items c.args.self.now c.loop-header.header-iterator c.in-None.ensures.steps.0 c.loop-header.invariant

pub returns-clause-rising : goal.returns-clause-rising
returns-clause-rising c = subst (AllPairs HasLowerId) c.self.view_is (ids_rise c.self.inside.headers c.self.invariant)

pub returns-clause-falling : goal.returns-clause-falling
returns-clause-falling c = subst (λ (hs : List Header). All IsNotBelowParent hs) c.self.view_is (none_below c.self.inside.headers c.self.invariant)
