use Rattle.std.proofs.Common.{◌<◌, ℕ, List, String, length, get_or, string_bytes, refl, subst, arith}
use Rattle.std.proofs.lemmas.List.{get_or_read}
use Rattle.std.specs.declared.alloc.Global.{Global}
use Rattle.program_draw.specs.Words.{IsSource, SpellsFile, SpellsNoFile}
use Rattle.program_draw.proofs.Zips.{partners_before}
use Rattle.audit_picture.proofs.Zips.{zip_more}
use Rattle.program_draw.proofs.words.read_sources.Goals as goal

pub returns-in-None-clause-refused : goal.returns-in-None-clause-refused
returns-in-None-clause-refused c other =
    let words = c.args.words.now in
    let word = c.index-words-i.result in
    let i = c.loop-i.i in
    let within : i < length words = omega arith in
    let none : SpellsNoFile (string_bytes word) = subst (λ (t : List ℕ). SpellsNoFile t) c.deref.ensures c.in-None.ensures in (
      i,
      refl,
      record {
        within = within;
        bad = λ d. subst (λ (w : String Global). SpellsNoFile (string_bytes w)) (get_or_read words i word within c.index-words-i.is d) none;
        sources_before = partners_before IsSource words c.loop-i.sources.items i (omega arith) c.loop-i.invariant;
      },
    )

pub loop-i-preserved : goal.loop-i-preserved
loop-i-preserved c =
    let words = c.args.words.now in
    let word = c.index-words-i.result in
    let source = c.in-Some.source in
    let i = c.loop-i.i in
    let within : i < length words = omega arith in
    let spelled : IsSource word source =
    subst (λ (t : List ℕ). SpellsFile t source.replica source.path.now) c.deref.ensures c.in-Some.ensures in
    let one : IsSource (get_or words i word) source = subst (λ (w : String Global). IsSource w source) c.index-words-i.is spelled in
    rw c.in_ok-push-in-Some.ensures.items (zip_more IsSource words c.loop-i.sources.items i word source within c.loop-i.invariant one)
