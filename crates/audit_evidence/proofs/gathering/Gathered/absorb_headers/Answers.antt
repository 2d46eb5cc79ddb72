use Rattle.audit_evidence.specs.Gathering.{IsGatheringRefusal}
use Rattle.std.specs.List.{Contains}
use Rattle.audit_evidence.proofs.Absorbing.{headers_more, headers_fault}
use Rattle.audit_evidence.proofs.Gatherings.{handed_on}
use Rattle.audit_evidence.proofs.gathering.Gathered.absorb_headers.Goals as goal

pub returns-in_err-add_known_header-clause-err : goal.returns-in_err-add_known_header-clause-err
returns-in_err-add_known_header-clause-err g c =
    let x = c.header-item.result in
    let e = c.in_err-add_known_header.field-0.0 in
    let fault = c.in_err-add_known_header.ensures.err in
    handed_on c.from_residual.result (IsGatheringRefusal c.args.self.now (Contains c.args.headers.now)) e c.from_residual.ensures.1
    (headers_fault c.args.self.now c.loop-header.self c.args.headers.now c.loop-header.header-index x e c.loop-header-test.true c.header-item.is c.loop-header.invariant fault)

pub loop-header-preserved : goal.loop-header-preserved
loop-header-preserved g c =
    let x = c.header-item.result in
    let step = c.in_ok-add_known_header.ensures.ok in
    headers_more c.args.self.now c.loop-header.self c.add_known_header.new.self c.args.headers.now c.loop-header.header-index x c.loop-header-test.true c.header-item.is c.loop-header.invariant step
