use Rattle.parallel_verify.proofs.Outcomes.{tries_of}
use Rattle.lab_bench.proofs.measuring.time_of_threads.Goals as goal

pub read_sources-requires-clause-tries : goal.read_sources-requires-clause-tries
read_sources-requires-clause-tries g c = λ κs bounds. tries_of (λ s. 1) c.in_ok-observed.observed.items c.in_ok-sources.sources.items c.in_ok-observed.ensures c.in_ok-sources.ensures
