use Rattle.std.proofs.Common.{◌≡◌, ◌++◌, List, take, drop, subst, sym, arith, rules}
use Rattle.std.specs.Prelude.{IsPermutation}
use Rattle.std.proofs.lemmas.List.{length-take-le, take-append-drop}
use Rattle.std.proofs.lemmas.List.Sorted.{length_permutation}
use Rattle.blocks.specs.Headers.{Header}
use Rattle.audit_picture.specs.declared.choosing.TheConstants.{MOST_BLOCKS}
use Rattle.audit_picture.proofs.choosing.first_of.Goals as goal

pub returns : goal.returns
returns c =
    let sorted = c.sort_unstable_by_key.new.self.items in
    let kept : c.truncate.new.self.items ≡ take MOST_BLOCKS sorted = search rules in
    let whole : sorted ≡ take MOST_BLOCKS sorted ++ drop MOST_BLOCKS sorted = sym (take-append-drop MOST_BLOCKS sorted) in
    let moved : IsPermutation c.args.headers.items sorted = c.sort_unstable_by_key.ensures.permutation in
    rw kept (record {
      left_out = drop MOST_BLOCKS sorted;
      parted = subst (λ (hs : List Header). IsPermutation c.args.headers.items hs) whole moved;
      all = λ few. absurd (let many = c.requires in omega arith);
      full = λ many. length-take-le MOST_BLOCKS sorted (let same = length_permutation c.args.headers.items sorted moved in omega arith);
    })
