use Rattle.std.proofs.lemmas.List.Elements.{All-push}
use Rattle.program_tool.specs.SourceTries.{IsTriedAs}
use Rattle.program_tool.proofs.Openings.{opened_more}
use Rattle.program_tool.proofs.sources.open_sources.Goals as goal

pub loop-i-preserved : goal.loop-i-preserved
loop-i-preserved g c =
    let pushed = c.in_ok-list.ensures in
    (rw pushed (All-push (λ s. IsTriedAs c.args.tries.count s.connector.connector s.tries) c.loop-i.sources.items c.source_of-source.result c.loop-i.invariant.0 c.source_of-source.ensures.tries), opened_more (λ s. s.connector.connector) (λ s. s.replica) c.args.words.now c.loop-i.sources.items _ c.loop-i.i _ c.source_of-source.result c.loop-i-test.true pushed c.loop-i.invariant.1 c.source_of-source.ensures.opened)
