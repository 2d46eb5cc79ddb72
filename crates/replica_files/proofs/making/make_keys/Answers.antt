use Rattle.std.proofs.Common.{◌∙◌, rules}
use Rattle.replica_files.proofs.Stopping.{made_more, one_more_key, stops_at_key}
use Rattle.replica_files.proofs.making.make_keys.Goals as goal

pub returns-in_err-make_key-clause-err : goal.returns-in_err-make_key-clause-err
returns-in_err-make_key-clause-err g c =
    let so = c.loop-i.invariant in
    let stop = stops_at_key c.in_err-make_key.field-0.0 _ _ _ _ _ _ so.0 c.args.secrets.now c.loop-i.i _ c.of.result c.loop-i-test.true c.of.ensures so.2 so.1 so.3
    c.in_err-make_key.ensures.err in
    search rules

pub loop-i-preserved : goal.loop-i-preserved
loop-i-preserved g c =
    let so = c.loop-i.invariant in (
      _,
      made_more _ _ _ so.0 _ so.1 c.in_ok-make_key.ensures.ok,
      one_more_key so.0 c.args.secrets.now c.loop-i.i _ c.of.result c.loop-i-test.true c.of.ensures so.2,
      c.in_ok-make_key.ensures.no_failure ∙ so.3,
    )
