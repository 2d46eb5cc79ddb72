-- What a sink was given, and what a feed has left.
use Rattle.std.specs.Prelude.{Bool, ◌≡◌, ◌≤◌, ◌<◌, ◌++◌, [], ℕ, List, Option, Some, IfSome, length, take, drop}

-- the sink was given these bytes, where it tells what it was given
abbrev pub Wrote : Option (List ℕ) → Option (List ℕ) → List ℕ → Type 0
Wrote before after bytes = IfSome before (λ text. after ≡ Some (text ++ bytes))

-- it was given the first of these bytes, up to some place
abbrev pub WrotePart : Option (List ℕ) → Option (List ℕ) → List ℕ → Type 0
WrotePart before after bytes = IfSome before (λ text. (n : ℕ) × (after ≡ Some (text ++ take n bytes)))

-- the feed gave the first n bytes of what it had left, where it tells, and none only at its end
pub record Gave (n room : ℕ) (filled rest left : List ℕ) : Type 0 where
  pub bytes : take n filled ≡ take n rest
  pub available : n ≤ length rest
  pub left_behind : left ≡ drop n rest
  pub at_end : n ≡ 0 → 0 < room → rest ≡ []

abbrev pub Read : Option (List ℕ) → Option (List ℕ) → ℕ → List ℕ → Type 0
Read before after n filled = IfSome before (λ rest. (left : List ℕ) × (after ≡ Some left) × Gave n (length filled) filled rest left)

-- bytes in memory: those that a sink was given, or those that a feed has left; and the fuse that is set
pub record Memory : Type 0 where
  pub bytes : List ℕ
  pub failures : ℕ
  pub fuse : Option (ℕ × Bool)

-- the same of a stream of the process, whose bytes are known only where the stream tells them
pub record Stream : Type 0 where
  pub bytes : Option (List ℕ)
  pub failures : ℕ
