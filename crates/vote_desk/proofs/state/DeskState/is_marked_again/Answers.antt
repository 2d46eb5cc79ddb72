use Rattle.std.proofs.Common.{List, ℕ, ap, subst}
use Rattle.blocks.specs.Headers.{Header}
use Rattle.replica_core.specs.Cores.{Core}
use Rattle.replica_core.specs.Marks.{HasNoMarkedIn}
use Rattle.vote_desk.specs.Desks.{DeskView}
use Rattle.vote_desk.proofs.state.DeskState.is_marked_again.Goals as goal

pub returns-in-None-clause-once : goal.returns-in-None-clause-once
returns-in-None-clause-once g c =
    let parent = ap (λ (h : Header). h.parent) c.block.view_is in
    let core = ap (λ (d : DeskView _). d.core) c.self.view_is in
    let none = subst (λ (id : List ℕ). HasNoMarkedIn c.self.inside.core c.args.mark.now id) parent c.in-None.ensures in
    λ never is. subst (λ (k : Core). HasNoMarkedIn k c.args.mark.now c.args.block.now.parent) core none
