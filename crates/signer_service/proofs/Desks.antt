-- Some desk.
use Rattle.vote_desk.specs.Desks.{DeskView}
use Rattle.vote_desk.specs.SomeDesk.{SomeDesk}

-- a desk that is so is also so
pub also_so : {D : Type 0} (IsDesk Is Also : DeskView D → Type 0) → ((d : DeskView D) → Is d → Also d) → SomeDesk IsDesk Is → SomeDesk IsDesk Also
also_so IsDesk Is Also then some = record { desk = some.desk; is_desk = some.is_desk; is = then some.desk some.is }
