use Rattle.std.proofs.Common.{◌≤◌, inr, length, subst}
use Rattle.vote_desk.specs.SomeDesk.{IsDeskOf, SomeDesk}
use Rattle.log_handout.specs.Handouts.{Handed, next_entry}
use Rattle.log_handout.proofs.handout.Handout.next_frames.Goals as goal

pub end-requires-in-None-clause-all : goal.end-requires-in-None-clause-all
end-requires-in-None-clause-all g c =
    inr (subst (λ (h : Handed). SomeDesk (IsDeskOf g.D.Disk g.N.DeskNaming.committee g.N.DeskNaming.replica g.N.DeskNaming.opening) (λ d. length d.log.steps ≤ next_entry h))
    c.self.view_is (c.in_ok-piece.ensures.none c.in-None.is))
