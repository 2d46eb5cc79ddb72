use Rattle.std.proofs.Common.{◌≤◌, length}
use Rattle.ancestry.specs.Links.{header_at, LeadsTo}
use Rattle.ancestry.proofs.ancestry.Ancestry.leads_to.Given as goal

abbrev pub invariant-loop-next : goal.invariant-loop-next
invariant-loop-next l = record {
  at_in : l.at ≤ length l.self.headers;
  leads : LeadsTo l.self (header_at l.self l.from) (header_at l.self l.at);
  past_none : LeadsTo l.self (header_at l.self l.from) l.a → LeadsTo l.self (header_at l.self l.at) l.a;
}

abbrev pub decreases-loop-next : goal.decreases-loop-next
decreases-loop-next l = (header_at l.self l.at).view
