-- Refusals in their order: what is refused does not pass.
use Rattle.std.proofs.Common.{ℕ, true, false, List, [], ◌∷◌}
use Rattle.std.specs.Prelude.{nat_eq}
use Rattle.std.specs.Bool.{MatchBool}
use Rattle.base_wire.specs.Refusals.{AllPassed, IsFirst}

pub refused_fails : {R : Type 0} (number : R → ℕ) (passed : R → Type 0) (xs : List R) (r : R) → IsFirst number passed xs r → AllPassed passed xs → ⊥
refused_fails number passed [] r first all = first
refused_fails number passed (x ∷ xs) r first all =
    elim (nat_eq (number x) (number r)) as (λ b. MatchBool b (passed x → ⊥) (passed x × IsFirst number passed xs r) → ⊥) [
      | true ↦ λ fails. fails all.0
      | false ↦ λ later. refused_fails number passed xs r later.1 all.1
    ] first
