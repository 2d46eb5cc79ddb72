use Rattle.std.proofs.Common.{◌<◌, ℕ, List, String, length, get_or, refl, subst, arith}
use Rattle.std.proofs.lemmas.List.{get_or_read}
use Rattle.std.specs.declared.alloc.Global.{Global}
use Rattle.audit_evidence.proofs.Gatherings.{zip_more}
use Rattle.program_parts.specs.Words.{SpellsSource}
use Rattle.program_parts.specs.declared.words.SourceWord.{SourceWord}
use Rattle.program_follow.specs.LineageWords.{IsSource}
use Rattle.program_follow.proofs.lineage_words.read_sources.Goals as goal

pub returns-in-None-clause-refused : goal.returns-in-None-clause-refused
returns-in-None-clause-refused c other =
    let words = c.args.words.now in
    let word = c.index-words-i.result in
    let i = c.loop-i.i in
    let within : i < length words = omega arith in
    let none : (s : SourceWord) → IsSource word s → ⊥ = subst (λ (t : List ℕ). (s : SourceWord) → SpellsSource t s → ⊥) c.deref.ensures c.in-None.ensures in (
      i,
      refl,
      record {
        within = within;
        bad = λ d. subst (λ (w : String Global). (s : SourceWord) → IsSource w s → ⊥) (get_or_read words i word within c.index-words-i.is d) none;
        before = c.loop-i.sources.items;
        are_sources = c.loop-i.invariant;
      },
    )

pub loop-i-preserved : goal.loop-i-preserved
loop-i-preserved c =
    let words = c.args.words.now in
    let word = c.index-words-i.result in
    let source = c.in-Some.source in
    let i = c.loop-i.i in
    let within : i < length words = omega arith in
    let spelled : IsSource word source = subst (λ (t : List ℕ). SpellsSource t source) c.deref.ensures c.in-Some.ensures in
    let one : IsSource (get_or words i word) source = subst (λ (w : String Global). IsSource w source) c.index-words-i.is spelled in
    rw c.in_ok-push-in-Some.ensures.items (zip_more IsSource words c.loop-i.sources.items i word source within c.loop-i.invariant one)
