use Rattle.std.proofs.Common.{◌≡◌, ◌+◌, ◌-◌, ◌<◌, List, ℕ, false, refl, sym, subst, take, drop, length, arith, rules}
use Rattle.program_show.specs.Words.{IsPath}
use Rattle.program_show.proofs.Tests.{not_true, so_true}
use Rattle.program_show.proofs.WordLists.{bad_behind, cut_of_path, none_behind, rest_is}
use Rattle.program_show.proofs.words.cut.Goals as goal

pub returns-in_default-2-clause-none : goal.returns-in_default-2-clause-none
returns-in_default-2-clause-none c _ =
    let words = c.args.words.now in
    let k = c.in-Some.at + 1 in
    none_behind words (take (length words - k) (drop k words)) c.in-Some.at c.in-Some.ensures.some (rest_is words k) c.in_default-2.len_below

pub returns-then-not-is_path-clause-none : goal.returns-then-not-is_path-clause-none
returns-then-not-is_path-clause-none c _ =
    let words = c.args.words.now in
    let k = c.in-Some.at + 1 in
    let no : c.is_path.result ≡ false = search rules in
    let some : 0 < length (take (length words - k) (drop k words)) = omega (arith, c.in-len1-up.len_at_least) in
    bad_behind words (take (length words - k) (drop k words)) c.in-Some.at c.path-item.result c.in-Some.ensures.some (rest_is words k) some c.path-item.is
    (λ isp. not_true c.is_path.result no (c.is_path.ensures.1 (subst (λ (t : List ℕ). IsPath t) (sym c.as_str-path.ensures.value) isp)))

pub returns-clause-some : goal.returns-clause-some
returns-clause-some c =
    let words = c.args.words.now in
    let k = c.in-Some.at + 1 in
    let rest = take (length words - k) (drop k words) in
    let some : 0 < length (take (length words - k) (drop k words)) = omega (arith, c.in-len1-up.len_at_least) in
    cut_of_path words (take c.in-Some.at words) rest (take (length rest - 1) (drop 1 rest)) c.in-Some.at c.path-item.result c.as_str-path.result.now c.in-Some.ensures.some refl
    (rest_is words k) some c.path-item.is (rest_is rest 1) c.as_str-path.ensures.value (c.is_path.ensures.0 (so_true c.is_path.result (search rules)))
