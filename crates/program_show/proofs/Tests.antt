-- What tests mean.
use Rattle.std.proofs.Common.{◌≡◌, Bool, true, false, IsTrue, rules}

pub so_true : (b : Bool) → b ≡ true → IsTrue b
so_true true e = search rules
so_true false e = let no : ⊥ = cc in absurd no

pub not_true : (b : Bool) → b ≡ false → IsTrue b → ⊥
not_true true e t = let no : ⊥ = cc in no
not_true false e t = search rules
