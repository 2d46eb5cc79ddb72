use Rattle.std.proofs.Common.{◌≡◌, List, sym, subst}
use Rattle.std.specs.List.{AllZip}
use Rattle.parallel_verify.specs.Parts.{IsPartOn, Part}
use Rattle.parallel_verify.specs.Readings.{IsCausedPart, sources_of}
use Rattle.parallel_verify.proofs.Outcomes.{caused_reports}
use Rattle.parallel_verify.proofs.collecting.read_on.Goals as goal

pub returns-clause-ok : goal.returns-clause-ok
returns-clause-ok g c =
    let committee = c.args.committee.now in
    let sources = c.args.sources.items in
    let are = c.in_ok-parts.ensures.ok in
    let shown = c.in_ok-evidence.ensures in
    let same : c.deref.result.now ≡ c.in_ok-parts.parts.items = c.deref.ensures.value in
    let parts = subst (λ (ps : List Part). AllZip (IsPartOn committee) are.logs ps) (sym same) are.parts in
    let caused = subst (λ (ps : List Part). AllZip (IsCausedPart g.C.Connector) (sources_of sources) ps) (sym same) are.caused in
    record {
      logs = are.logs;
      given = are.given;
      evidence = shown.evidence are.logs parts;
      caused = caused_reports g.C.Connector (sources_of sources) c.deref.result.now c.in_ok-evidence.evidence.sources caused shown.told;
      judged = λ asked. shown.judged asked are.logs parts;
      seen = are.seen;
    }
