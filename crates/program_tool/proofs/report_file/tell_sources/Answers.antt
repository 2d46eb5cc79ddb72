use Rattle.std.proofs.Common.{◌≡◌, ◌+◌, ◌++◌, ◌∷◌, [], List, rules, sym, subst, take}
use Rattle.audit_run.specs.declared.told.SourceTold.{SourceTold}
use Rattle.program_tool.specs.Told.{AreTold}
use Rattle.program_tool.proofs.Filings.{told_next}
use Rattle.program_tool.proofs.report_file.tell_sources.Goals as goal

pub loop-i-preserved : goal.loop-i-preserved
loop-i-preserved g c =
    let i = c.loop-i.i in
    let told = c.tell_source.result in
    let pushed : c.push.new.self.items ≡ c.loop-i.told.items ++ told ∷ [] = search rules in
    subst (λ (ts : List SourceTold). AreTold c.args.words.now (take (i + 1) c.args.judged.now) ts) (sym pushed)
    (told_next c.args.words.now c.args.judged.now c.loop-i.told.items i _ told c.loop-i-test.true c.loop-i.invariant c.tell_source.ensures)
