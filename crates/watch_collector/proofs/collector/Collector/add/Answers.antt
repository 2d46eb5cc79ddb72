use Rattle.watch_collector.proofs.KnownSoFar.{added, not_added}
use Rattle.watch_collector.proofs.collector.Collector.add.Goals as goal

pub returns-clause-ok : goal.returns-clause-ok
returns-clause-ok g c = added c.args.self.now c.add_part.new.self c.args.log c.args.part.now c.requires.there c.requires.follows c.add_part.result c.add_part.ensures.grown c.add_part.ensures.reports

pub returns-clause-refused : goal.returns-clause-refused
returns-clause-refused g c = not_added c.args.self.now c.add_part.new.self c.args.log c.args.part.now c.requires.there c.requires.follows c.add_part.result c.add_part.ensures.err
