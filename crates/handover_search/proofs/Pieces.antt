-- A text that grows by some pieces.
use Rattle.std.proofs.Common.{◌≡◌, ◌∙◌, ℕ, List, ◌++◌, ap, append_assoc}

pub by_two : (old p1 p2 s1 s2 : List ℕ) → s1 ≡ old ++ p1 → s2 ≡ s1 ++ p2 → s2 ≡ old ++ (p1 ++ p2)
by_two old a b one two first second = second ∙ ap (λ (t : List ℕ). t ++ b) first ∙ append_assoc old a b

pub by_three : (old p1 p2 p3 s1 s2 s3 : List ℕ) → s1 ≡ old ++ p1 → s2 ≡ s1 ++ p2 → s3 ≡ s2 ++ p3 → s3 ≡ old ++ (p1 ++ p2 ++ p3)
by_three old p1 p2 p3 s1 s2 s3 e1 e2 e3 = by_two old (p1 ++ p2) p3 s2 s3 (by_two old p1 p2 s1 s2 e1 e2) e3
