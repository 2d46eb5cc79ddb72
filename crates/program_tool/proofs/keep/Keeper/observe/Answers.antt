use Rattle.std.proofs.Common.{◌++◌, ◌∷◌, [], ◌∙◌, ap, append_assoc, rules}
use Rattle.std.proofs.lemmas.List.{map-append}
use Rattle.parallel_verify.specs.Readings.{source_of, sources_of}
use Rattle.program_tool.proofs.keep.Keeper.observe.Goals as goal

pub loop-source-preserved : goal.loop-source-preserved
loop-source-preserved g c =
    let s = c.in-Some.ensures.steps in
    record {
      all = search (rules, append_assoc);
      same =
          ap sources_of c.in_ok-push.ensures.items ∙ map-append source_of c.loop-source.observed.items _
          ∙ ap (λ ys. ys ++ c.in-Some.source ∷ []) c.loop-source.invariant.same;
    }
