use Rattle.std.proofs.Common.{List, subst, sym}
use Rattle.std.proofs.lemmas.Result.{IfOk-weaker}
use Rattle.parallel_verify.specs.declared.judging.Judgement.{Judgement}
use Rattle.audit_run.specs.declared.told.SourceTold.{SourceTold}
use Rattle.program_tool.specs.Told.{AreTold}
use Rattle.program_tool.proofs.report_file.report_text.Goals as goal

pub returns : goal.returns
returns g c =
    let items = c.in_ok-sources.sources.items in
    let told = c.told_of-told.ensures in
    IfOk-weaker c.report_of.result _ _ (λ text is. record {
      told = c.told_of-told.result;
      status_is = told.status;
      chain = told.chain;
      total = told.total;
      folder_is = told.folder;
      sources = c.deref-3.result.now;
      each = subst (λ (ts : List SourceTold). AreTold c.args.words.now c.args.found.now.judged.items ts) (sym c.deref-3.ensures.value)
          (subst (λ (js : List Judgement). AreTold c.args.words.now js items) c.deref-2.ensures.value c.in_ok-sources.ensures);
      text = is;
    }) c.report_of.ensures.text
