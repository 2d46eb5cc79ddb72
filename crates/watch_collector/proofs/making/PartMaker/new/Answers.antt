use Rattle.std.proofs.Common.{refl}
use Rattle.watch_collector.proofs.MadeParts.{made_of_none}
use Rattle.watch_collector.proofs.making.PartMaker.new.Goals as goal

pub returns-clause-made : goal.returns-clause-made
returns-clause-made c = made_of_none c.args.committee.now _ c.in_ok-new.ensures.committee c.in_ok-new.ensures.headers c.in_ok-new.ensures.votes refl refl
