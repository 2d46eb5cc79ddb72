use Rattle.std.proofs.Common.{subst}
use Rattle.replica_core.specs.Cores.{Core}
use Rattle.replica_core.specs.Marks.{HasNoMarkedIn, IsFirstMarkedIn}
use Rattle.vote_desk.proofs.state.DeskState.first_marked.Goals as goal

pub returns-in-None : goal.returns-in-None
returns-in-None g c =
    subst (λ (x : Core). HasNoMarkedIn x c.args.mark.now c.args.id.now) c.core.ensures.value c.in-None.ensures

pub returns-in-Some : goal.returns-in-Some
returns-in-Some g c =
    subst (λ (x : Core). IsFirstMarkedIn x c.args.mark.now c.args.id.now c.in-Some.first) c.core.ensures.value c.in-Some.ensures
