use Rattle.std.proofs.Common.{List, subst}
use Rattle.std.specs.List.{All, AllPairs}
use Rattle.blocks.specs.Headers.{Header, HasLowerId}
use Rattle.audit_evidence.specs.Evidence.{IsNotBelowParent}
use Rattle.audit_evidence.proofs.HeaderOrder.{ids_rise, none_below}
use Rattle.audit_evidence.proofs.headers.HeaderSet.into_vec.Goals as goal

pub returns-clause-rising : goal.returns-clause-rising
returns-clause-rising c = subst (AllPairs HasLowerId) c.self.view_is (ids_rise c.self.inside.headers c.self.invariant)

pub returns-clause-falling : goal.returns-clause-falling
returns-clause-falling c = subst (λ (hs : List Header). All IsNotBelowParent hs) c.self.view_is (none_below c.self.inside.headers c.self.invariant)
