use Rattle.parallel_verify.proofs.Outcomes.{tries_of}
use Rattle.parallel_verify.proofs.collecting.collect_by.Goals as goal

pub read_sources-requires-clause-tries : goal.read_sources-requires-clause-tries
read_sources-requires-clause-tries g c = λ κs bounds. tries_of g.C.Connector.allowed c.in_ok-observed.observed.items c.args.sources.items c.in_ok-observed.ensures c.requires.tries
