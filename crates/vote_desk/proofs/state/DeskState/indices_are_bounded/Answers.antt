use Rattle.vote_desk.proofs.Moments.{bounded_still}
use Rattle.vote_desk.proofs.state.DeskState.indices_are_bounded.Goals as goal

pub returns : goal.returns
returns g c =
    rw (← c.self.view_is) (bounded_still g.D.Disk c.self.inside.indices g.met.D.Disk.only_now c.stopped-stopped.ensures.bounded)
