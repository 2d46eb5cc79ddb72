use Rattle.audit_evidence.proofs.Gatherings.{zip_more}
use Rattle.program_follow.specs.Sources.{IsOpenedAs}
use Rattle.program_follow.proofs.sources.sources_of.Goals as goal

pub loop-i-preserved : goal.loop-i-preserved
loop-i-preserved g c =
    rw c.in_ok-push.ensures.items (zip_more IsOpenedAs c.args.words.now c.loop-i.sources.items c.loop-i.i _ c.source_of.result c.loop-i-test.true c.loop-i.invariant c.source_of.ensures)
