use Rattle.std.proofs.Common.{◌≤◌, ◌≢◌, ℕ, List, Option, arith, length, subst, sym}
use Rattle.program_parts.specs.declared.program_fault.ProgramFault.{ProgramFault}
use Rattle.program_parts.specs.declared.program_fault.ProgramFault.TheVariants.{Output}
use Rattle.program_tool.specs.AuditFiles.{AreTried, IsTried, fault_in}
use Rattle.program_tool.specs.declared.fault.ToolFault.{ToolFault}
use Rattle.program_tool.proofs.Filings.{done_stored, first_or, tried_next}
use Rattle.program_tool.proofs.audit.store_verdicts.Goals as goal
use Rattle.std.proofs.Common.{◌+◌, take}

pub loop-verdict-preserved : goal.loop-verdict-preserved
loop-verdict-preserved g c =
    let stored = g.D.StoreFiles.stored in
    let vs = c.verdicts-verdicts.result.now in
    let i = c.loop-verdict.verdict-index in
    let folder = c.args.folder.now in
    let tried = c.store_verdict.ensures.tried in (
      subst (λ (f : Option (ProgramFault ToolFault)). AreTried folder (take (i + 1) vs) (stored c.args.files.now) (stored c.store_verdict.new.files) f) (sym c.first_fault-stored.ensures)
          (tried_next folder vs i c.verdict-item.result (stored c.args.files.now) (stored c.loop-verdict.files) (stored c.store_verdict.new.files) (fault_in c.loop-verdict.stored) (fault_in c.store_verdict.result) c.loop-verdict-test.true c.loop-verdict.invariant.0
          (subst (λ (v : List ℕ). IsTried folder v (stored c.loop-verdict.files) (stored c.store_verdict.new.files) (fault_in c.store_verdict.result)) c.verdict-item.is tried)),
      first_or (λ fault. fault ≢ Output) c.first_fault-stored.result c.loop-verdict.stored c.store_verdict.result c.first_fault-stored.ensures c.loop-verdict.invariant.1 c.store_verdict.ensures.fault,
    )

pub returns-clause-stored : goal.returns-clause-stored
returns-clause-stored g c =
    let vs = c.verdicts-verdicts.result.now in
    let end : length vs ≤ c.loop-verdict.verdict-index = omega arith in
    done_stored c.args.folder.now vs c.args.report.now.verdicts c.loop-verdict.verdict-index _ _ c.loop-verdict.stored end c.verdicts-verdicts.ensures c.loop-verdict.invariant.0
