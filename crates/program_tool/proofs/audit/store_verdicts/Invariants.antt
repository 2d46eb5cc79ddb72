use Rattle.std.proofs.Common.{◌≢◌, take}
use Rattle.std.specs.Prelude.{IfErr}
use Rattle.program_parts.specs.declared.program_fault.ProgramFault.TheVariants.{Output}
use Rattle.program_tool.specs.AuditFiles.{AreTried, fault_in}
use Rattle.program_tool.proofs.audit.store_verdicts.Given as goal

abbrev pub invariant-loop-verdict : goal.invariant-loop-verdict
invariant-loop-verdict g l = AreTried l.folder (take l.verdict-index l.verdicts) (g.D.StoreFiles.stored l.fn.files) (g.D.StoreFiles.stored l.files) (fault_in l.stored)
    × IfErr l.stored (λ fault. fault ≢ Output)
