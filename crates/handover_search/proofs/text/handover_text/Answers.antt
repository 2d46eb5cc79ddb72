use Rattle.std.proofs.Common.{inr}
use Rattle.handover_search.proofs.text.handover_text.Goals as goal

pub returns-in-None : goal.returns-in-None
returns-in-None c = inr (record {
  none = λ _ agree. c.in_ok-block.ensures.none agree c.in-None.is;
  told = c.new-in-None.ensures.items;
})
