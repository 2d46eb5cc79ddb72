use Rattle.std.proofs.Common.{◌≡◌, ◌+◌, ◌++◌, ◌∷◌, [], ℕ, List, Bor, rules, sym, subst, take}
use Rattle.std.specs.List.{AllZip}
use Rattle.audit_evidence.proofs.Gatherings.{zip_more}
use Rattle.program_parts.specs.Words.{SpellsSource}
use Rattle.program_parts.specs.declared.words.SourceWord.{SourceWord}
use Rattle.program_tool.proofs.sources.read_source_words.Goals as goal

pub loop-i-preserved : goal.loop-i-preserved
loop-i-preserved c =
    let Spells : Bor (List ℕ) → SourceWord → Type 0 = λ word source. SpellsSource word.now source in
    let i = c.loop-i.i in
    let pushed : c.push.new.self.items ≡ c.loop-i.sources.items ++ c.in-Some.source ∷ [] = search rules in
    subst (λ (ss : List SourceWord). AllZip Spells (take (i + 1) c.args.words.now) ss) (sym pushed)
    (zip_more Spells c.args.words.now c.loop-i.sources.items i _ c.in-Some.source c.loop-i-test.true c.loop-i.invariant c.in-Some.ensures)
