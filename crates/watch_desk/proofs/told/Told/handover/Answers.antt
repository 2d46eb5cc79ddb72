use Rattle.std.proofs.Common.{◌≡◌, ◌∙◌, false, subst, sym}
use Rattle.watch_desk.specs.Hearing.{Told}
use Rattle.watch_desk.proofs.told.Told.handover.Goals as goal

pub returns-in-None : goal.returns-in-None
returns-in-None c = λ e is. record {
  first = c.handover_in.ensures.first e is;
  once = λ _. subst (λ (t : Told). t.handover ≡ false) c.self.view_is c.if-self.false;
  no_conflict = λ _. sym c.conflict.ensures ∙ c.in-None.is;
  all = λ _ _ agree none. c.handover_in.ensures.none e is agree none;
}
