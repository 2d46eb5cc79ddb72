use Rattle.std.proofs.Common.{◌≡◌, ◌∙◌, List, ℕ, ap, arith, length, lit<, take}
use Rattle.std.proofs.lemmas.Bool.Decides.{nat_tests}
use Rattle.replica_requests.specs.Intakes.{HeldLine, held}
use Rattle.replica_requests.specs.declared.reading.TheConstants.{LONGEST_LINE}
use Rattle.replica_requests.proofs.Holding.{empty_if_none_held}
use Rattle.replica_requests.proofs.reading.OpenLine.is_empty.Goals as goal

pub returns : goal.returns
unfolding held
returns c line is =
    let bytes = ap (λ (h : HeldLine). h.bytes) (c.self.view_is ∙ is) in
    let count : length c.self.inside.bytes.items ≡ length (take LONGEST_LINE line) = ap (λ (b : List ℕ). length b) bytes in (
      λ yes.
          let none : length c.self.inside.bytes.items ≡ 0 = grind (arith, nat_tests) in
          empty_if_none_held LONGEST_LINE line (lit< tt) (omega (arith, count, none)),
      λ empty.
          let short = ap (λ (l : List ℕ). length (take LONGEST_LINE l)) empty in
          let none : length c.self.inside.bytes.items ≡ 0 = omega (arith, count, short) in
          grind (arith, nat_tests),
    )
