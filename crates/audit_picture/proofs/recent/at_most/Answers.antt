use Rattle.std.proofs.Common.{◌≡◌, ◌++◌, List, take, drop, subst, sym, arith, rules}
use Rattle.std.specs.Prelude.{IsPermutation}
use Rattle.std.proofs.lemmas.List.{drop_all, length-take-le, take-append-drop}
use Rattle.std.proofs.lemmas.List.Sorted.{IsPermutation-refl}
use Rattle.blocks.specs.Headers.{Header}
use Rattle.audit_picture.specs.declared.recent.TheConstants.{MOST_OTHERS}
use Rattle.audit_picture.proofs.recent.at_most.Goals as goal

pub returns : goal.returns
returns c =
    let others = c.args.others.items in
    let kept : c.truncate.new.self.items ≡ take MOST_OTHERS others = search rules in
    let whole : others ≡ take MOST_OTHERS others ++ drop MOST_OTHERS others = sym (take-append-drop MOST_OTHERS others) in
    rw kept (record {
      left_out = drop MOST_OTHERS others;
      parted = subst (λ (hs : List Header). IsPermutation others hs) whole (IsPermutation-refl others);
      all = λ few. drop_all MOST_OTHERS others few;
      full = λ many. length-take-le MOST_OTHERS others (omega (arith, many));
    })
