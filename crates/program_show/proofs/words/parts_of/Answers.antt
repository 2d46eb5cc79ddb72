use Rattle.std.proofs.Common.{◌≡◌, List, ℕ, false, refl, rules}
use Rattle.program_show.proofs.Tests.{not_true}
use Rattle.program_show.proofs.WordLists.{no_paths_before, no_paths_behind}
use Rattle.program_show.proofs.words.parts_of.Goals as goal

pub returns-in_err-parts-clause-none : goal.returns-in_err-parts-clause-none
returns-in_err-parts-clause-none c _ = c.in_err-parts.ensures.none refl

pub returns-then-not-are_paths-clause-none : goal.returns-then-not-are_paths-clause-none
returns-then-not-are_paths-clause-none c _ =
    let no : c.are_paths.result ≡ false = search rules in
    no_paths_before c.args.words.now c.in_ok-parts.parts.front.now _ c.in_ok-parts.parts.behind.now c.in_ok-parts.ensures.some
    (λ all. not_true c.are_paths.result no (c.are_paths.ensures.1 all))

pub returns-then-not-are_paths-2-clause-none : goal.returns-then-not-are_paths-2-clause-none
returns-then-not-are_paths-2-clause-none c _ =
    let no : c.are_paths-2.result ≡ false = search rules in
    no_paths_behind c.args.words.now c.in_ok-parts.parts.front.now _ c.in_ok-parts.parts.behind.now c.in_ok-parts.ensures.some
    (λ all. not_true c.are_paths-2.result no (c.are_paths-2.ensures.1 all))
