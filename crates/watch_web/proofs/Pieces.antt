-- A text that grows by some pieces.
use Rattle.std.proofs.Common.{◌≡◌, ◌∙◌, ℕ, List, ◌++◌, ap, append_assoc}

pub by_two : (old p1 p2 s1 s2 : List ℕ) → s1 ≡ old ++ p1 → s2 ≡ s1 ++ p2 → s2 ≡ old ++ (p1 ++ p2)
by_two old a b one two first second = second ∙ ap (λ (t : List ℕ). t ++ b) first ∙ append_assoc old a b

pub by_three : (old p1 p2 p3 s1 s2 s3 : List ℕ) → s1 ≡ old ++ p1 → s2 ≡ s1 ++ p2 → s3 ≡ s2 ++ p3 → s3 ≡ old ++ (p1 ++ p2 ++ p3)
by_three old p1 p2 p3 s1 s2 s3 e1 e2 e3 =
    by_two old (p1 ++ p2) p3 s2 s3 (by_two old p1 p2 s1 s2 e1 e2) e3

pub by_four : (old p1 p2 p3 p4 s1 s2 s3 s4 : List ℕ) → s1 ≡ old ++ p1 → s2 ≡ s1 ++ p2 → s3 ≡ s2 ++ p3 → s4 ≡ s3 ++ p4 → s4 ≡ old ++ (p1 ++ p2 ++ p3 ++ p4)
by_four old p1 p2 p3 p4 s1 s2 s3 s4 e1 e2 e3 e4 =
    by_two old (p1 ++ p2 ++ p3) p4 s3 s4 (by_three old p1 p2 p3 s1 s2 s3 e1 e2 e3) e4

pub by_five : (old p1 p2 p3 p4 p5 s1 s2 s3 s4 s5 : List ℕ) → s1 ≡ old ++ p1 → s2 ≡ s1 ++ p2 → s3 ≡ s2 ++ p3 → s4 ≡ s3 ++ p4 → s5 ≡ s4 ++ p5 → s5 ≡ old ++ (p1 ++ p2 ++ p3 ++ p4 ++ p5)
by_five old p1 p2 p3 p4 p5 s1 s2 s3 s4 s5 e1 e2 e3 e4 e5 =
    by_two old (p1 ++ p2 ++ p3 ++ p4) p5 s4 s5 (by_four old p1 p2 p3 p4 s1 s2 s3 s4 e1 e2 e3 e4) e5

pub by_six : (old p1 p2 p3 p4 p5 p6 s1 s2 s3 s4 s5 s6 : List ℕ) → s1 ≡ old ++ p1 → s2 ≡ s1 ++ p2 → s3 ≡ s2 ++ p3 → s4 ≡ s3 ++ p4 → s5 ≡ s4 ++ p5 → s6 ≡ s5 ++ p6 → s6 ≡ old ++ (p1 ++ p2 ++ p3 ++ p4 ++ p5 ++ p6)
by_six old p1 p2 p3 p4 p5 p6 s1 s2 s3 s4 s5 s6 e1 e2 e3 e4 e5 e6 =
    by_two old (p1 ++ p2 ++ p3 ++ p4 ++ p5) p6 s5 s6 (by_five old p1 p2 p3 p4 p5 s1 s2 s3 s4 s5 e1 e2 e3 e4 e5) e6

pub by_seven : (old p1 p2 p3 p4 p5 p6 p7 s1 s2 s3 s4 s5 s6 s7 : List ℕ) → s1 ≡ old ++ p1 → s2 ≡ s1 ++ p2 → s3 ≡ s2 ++ p3 → s4 ≡ s3 ++ p4 → s5 ≡ s4 ++ p5 → s6 ≡ s5 ++ p6 → s7 ≡ s6 ++ p7 → s7 ≡ old ++ (p1 ++ p2 ++ p3 ++ p4 ++ p5 ++ p6 ++ p7)
by_seven old p1 p2 p3 p4 p5 p6 p7 s1 s2 s3 s4 s5 s6 s7 e1 e2 e3 e4 e5 e6 e7 =
    by_two old (p1 ++ p2 ++ p3 ++ p4 ++ p5 ++ p6) p7 s6 s7 (by_six old p1 p2 p3 p4 p5 p6 s1 s2 s3 s4 s5 s6 e1 e2 e3 e4 e5 e6) e7

pub by_eight : (old p1 p2 p3 p4 p5 p6 p7 p8 s1 s2 s3 s4 s5 s6 s7 s8 : List ℕ) → s1 ≡ old ++ p1 → s2 ≡ s1 ++ p2 → s3 ≡ s2 ++ p3 → s4 ≡ s3 ++ p4 → s5 ≡ s4 ++ p5 → s6 ≡ s5 ++ p6 → s7 ≡ s6 ++ p7 → s8 ≡ s7 ++ p8 → s8 ≡ old ++ (p1 ++ p2 ++ p3 ++ p4 ++ p5 ++ p6 ++ p7 ++ p8)
by_eight old p1 p2 p3 p4 p5 p6 p7 p8 s1 s2 s3 s4 s5 s6 s7 s8 e1 e2 e3 e4 e5 e6 e7 e8 =
    by_two old (p1 ++ p2 ++ p3 ++ p4 ++ p5 ++ p6 ++ p7) p8 s7 s8 (by_seven old p1 p2 p3 p4 p5 p6 p7 s1 s2 s3 s4 s5 s6 s7 e1 e2 e3 e4 e5 e6 e7) e8

pub by_nine : (old p1 p2 p3 p4 p5 p6 p7 p8 p9 s1 s2 s3 s4 s5 s6 s7 s8 s9 : List ℕ) → s1 ≡ old ++ p1 → s2 ≡ s1 ++ p2 → s3 ≡ s2 ++ p3 → s4 ≡ s3 ++ p4 → s5 ≡ s4 ++ p5 → s6 ≡ s5 ++ p6 → s7 ≡ s6 ++ p7 → s8 ≡ s7 ++ p8 → s9 ≡ s8 ++ p9 → s9 ≡ old ++ (p1 ++ p2 ++ p3 ++ p4 ++ p5 ++ p6 ++ p7 ++ p8 ++ p9)
by_nine old p1 p2 p3 p4 p5 p6 p7 p8 p9 s1 s2 s3 s4 s5 s6 s7 s8 s9 e1 e2 e3 e4 e5 e6 e7 e8 e9 =
    by_two old (p1 ++ p2 ++ p3 ++ p4 ++ p5 ++ p6 ++ p7 ++ p8) p9 s8 s9 (by_eight old p1 p2 p3 p4 p5 p6 p7 p8 s1 s2 s3 s4 s5 s6 s7 s8 e1 e2 e3 e4 e5 e6 e7 e8) e9

pub by_ten : (old p1 p2 p3 p4 p5 p6 p7 p8 p9 p10 s1 s2 s3 s4 s5 s6 s7 s8 s9 s10 : List ℕ) → s1 ≡ old ++ p1 → s2 ≡ s1 ++ p2 → s3 ≡ s2 ++ p3 → s4 ≡ s3 ++ p4 → s5 ≡ s4 ++ p5 → s6 ≡ s5 ++ p6 → s7 ≡ s6 ++ p7 → s8 ≡ s7 ++ p8 → s9 ≡ s8 ++ p9 → s10 ≡ s9 ++ p10 → s10 ≡ old ++ (p1 ++ p2 ++ p3 ++ p4 ++ p5 ++ p6 ++ p7 ++ p8 ++ p9 ++ p10)
by_ten old p1 p2 p3 p4 p5 p6 p7 p8 p9 p10 s1 s2 s3 s4 s5 s6 s7 s8 s9 s10 e1 e2 e3 e4 e5 e6 e7 e8 e9 e10 =
    by_two old (p1 ++ p2 ++ p3 ++ p4 ++ p5 ++ p6 ++ p7 ++ p8 ++ p9) p10 s9 s10 (by_nine old p1 p2 p3 p4 p5 p6 p7 p8 p9 s1 s2 s3 s4 s5 s6 s7 s8 s9 e1 e2 e3 e4 e5 e6 e7 e8 e9) e10

pub by_eleven : (old p1 p2 p3 p4 p5 p6 p7 p8 p9 p10 p11 s1 s2 s3 s4 s5 s6 s7 s8 s9 s10 s11 : List ℕ) → s1 ≡ old ++ p1 → s2 ≡ s1 ++ p2 → s3 ≡ s2 ++ p3 → s4 ≡ s3 ++ p4 → s5 ≡ s4 ++ p5 → s6 ≡ s5 ++ p6 → s7 ≡ s6 ++ p7 → s8 ≡ s7 ++ p8 → s9 ≡ s8 ++ p9 → s10 ≡ s9 ++ p10 → s11 ≡ s10 ++ p11 → s11 ≡ old ++ (p1 ++ p2 ++ p3 ++ p4 ++ p5 ++ p6 ++ p7 ++ p8 ++ p9 ++ p10 ++ p11)
by_eleven old p1 p2 p3 p4 p5 p6 p7 p8 p9 p10 p11 s1 s2 s3 s4 s5 s6 s7 s8 s9 s10 s11 e1 e2 e3 e4 e5 e6 e7 e8 e9 e10 e11 =
    by_two old (p1 ++ p2 ++ p3 ++ p4 ++ p5 ++ p6 ++ p7 ++ p8 ++ p9 ++ p10) p11 s10 s11 (by_ten old p1 p2 p3 p4 p5 p6 p7 p8 p9 p10 s1 s2 s3 s4 s5 s6 s7 s8 s9 s10 e1 e2 e3 e4 e5 e6 e7 e8 e9 e10) e11

pub by_twelve : (old p1 p2 p3 p4 p5 p6 p7 p8 p9 p10 p11 p12 s1 s2 s3 s4 s5 s6 s7 s8 s9 s10 s11 s12 : List ℕ) → s1 ≡ old ++ p1 → s2 ≡ s1 ++ p2 → s3 ≡ s2 ++ p3 → s4 ≡ s3 ++ p4 → s5 ≡ s4 ++ p5 → s6 ≡ s5 ++ p6 → s7 ≡ s6 ++ p7 → s8 ≡ s7 ++ p8 → s9 ≡ s8 ++ p9 → s10 ≡ s9 ++ p10 → s11 ≡ s10 ++ p11 → s12 ≡ s11 ++ p12 → s12 ≡ old ++ (p1 ++ p2 ++ p3 ++ p4 ++ p5 ++ p6 ++ p7 ++ p8 ++ p9 ++ p10 ++ p11 ++ p12)
by_twelve old p1 p2 p3 p4 p5 p6 p7 p8 p9 p10 p11 p12 s1 s2 s3 s4 s5 s6 s7 s8 s9 s10 s11 s12 e1 e2 e3 e4 e5 e6 e7 e8 e9 e10 e11 e12 =
    by_two old (p1 ++ p2 ++ p3 ++ p4 ++ p5 ++ p6 ++ p7 ++ p8 ++ p9 ++ p10 ++ p11) p12 s11 s12 (by_eleven old p1 p2 p3 p4 p5 p6 p7 p8 p9 p10 p11 s1 s2 s3 s4 s5 s6 s7 s8 s9 s10 s11 e1 e2 e3 e4 e5 e6 e7 e8 e9 e10 e11) e12
