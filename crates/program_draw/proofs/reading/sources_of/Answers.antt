use Rattle.std.proofs.Common.{◌<◌, length, arith}
use Rattle.std.proofs.lemmas.List.Elements.{All-push}
use Rattle.parallel_verify.specs.Collections.{MayBeTried}
use Rattle.program_draw.proofs.Sources.{IsSourceOf}
use Rattle.audit_picture.proofs.Zips.{zip_more}
use Rattle.program_draw.proofs.reading.sources_of.Goals as goal

pub loop-word-preserved : goal.loop-word-preserved
loop-word-preserved g c =
    let words = c.args.words.now in
    let source = c.source_of.result in
    let sources = c.loop-word.sources.items in
    let i = c.loop-word.word-index in
    let within : i < length words = omega arith in
    record {
      tried = rw c.in_ok-push.ensures.items (All-push (MayBeTried (λ c. 1)) sources source c.loop-word.invariant.tried c.source_of.ensures.tried);
      replicas = rw c.in_ok-push.ensures.items (zip_more IsSourceOf words sources i _ source within c.loop-word.invariant.replicas c.source_of.ensures.replica);
    }
