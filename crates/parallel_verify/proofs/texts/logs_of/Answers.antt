use Rattle.std.proofs.Common.{◌+◌, List, sym, subst, take}
use Rattle.std.specs.List.{AllZip}
use Rattle.audit_evidence.specs.Logs.{ReceivedLog}
use Rattle.audit_evidence.proofs.Gatherings.{zip_more}
use Rattle.parallel_verify.specs.Sources.{IsLogOf, Source}
use Rattle.parallel_verify.proofs.texts.logs_of.Goals as goal

pub loop-source-preserved : goal.loop-source-preserved
loop-source-preserved c =
    let ss = c.args.sources.now in
    let i = c.loop-source.source-index in
    let s = c.source-item.result in
    let l = c.in_ok-log_of.field-0 in
    subst (λ (ls : List ReceivedLog). AllZip IsLogOf (take (i + 1) ss) ls) (sym c.in_ok-put.ensures)
    (zip_more IsLogOf ss c.loop-source.logs.items i s l c.loop-source-test.true c.loop-source.invariant (subst (λ (x : Source). IsLogOf x l) c.source-item.is c.in_ok-log_of.ensures))
