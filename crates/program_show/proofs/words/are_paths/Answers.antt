use Rattle.std.proofs.Common.{◌≡◌, ◌≤◌, List, ℕ, String, true, false, refl, sym, subst, length, arith, rules}
use Rattle.std.specs.List.{All}
use Rattle.std.specs.declared.alloc.Global.{Global}
use Rattle.std.proofs.lemmas.List.{take_all}
use Rattle.program_show.specs.Words.{IsPath, texts}
use Rattle.program_show.proofs.Tests.{not_true, so_true}
use Rattle.program_show.proofs.WordLists.{no_paths_at, paths_more}
use Rattle.program_show.proofs.words.are_paths.Goals as goal

pub returns-then-not-is_path : goal.returns-then-not-is_path
returns-then-not-is_path c =
    let no : c.is_path.result ≡ false = search rules in (
      λ t. absurd (not_true false refl t),
      λ all. absurd (no_paths_at c.args.words.now c.loop-word.word-index c.word-item.result c.loop-word-test.true c.word-item.is
          (λ isp. not_true c.is_path.result no (c.is_path.ensures.1 (subst (λ (t : List ℕ). IsPath t) (sym c.as_str.ensures.value) isp))) all),
    )

pub loop-word-preserved : goal.loop-word-preserved
loop-word-preserved c =
    let yes : c.is_path.result ≡ true = search rules in
    paths_more c.args.words.now c.loop-word.word-index c.word-item.result c.loop-word-test.true c.word-item.is c.loop-word.invariant
    (subst (λ (t : List ℕ). IsPath t) c.as_str.ensures.value (c.is_path.ensures.0 (so_true c.is_path.result yes)))

pub returns : goal.returns
returns c =
    let words = c.args.words.now in
    let end : length words ≤ c.loop-word.word-index = omega arith in (
      λ t. subst (λ (ws : List (String Global)). All IsPath (texts ws)) (take_all c.loop-word.word-index words end) c.loop-word.invariant,
      λ all. so_true true refl,
    )
