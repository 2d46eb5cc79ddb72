use Rattle.std.proofs.Common.{◌≡◌, length}
use Rattle.ancestry.specs.Links.{AreLinks}
use Rattle.ancestry.proofs.links.links_of.Given as goal

abbrev pub invariant-loop-at : goal.invariant-loop-at
invariant-loop-at l = record {
  count : length l.links.items ≡ l.at;
  each : AreLinks (record { genesis = l.genesis; headers = l.headers }) l.links.items;
}
