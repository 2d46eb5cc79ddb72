-- Words one by one.
use Rattle.std.proofs.Common.{◌≡◌, ℕ, List, [], ◌∷◌, String, get_or, length, string_bytes, sym, ap, arith}
use Rattle.std.specs.declared.alloc.Global.{Global}
use Rattle.program_help.specs.Helps.{texts}

pub one_word : (words : List (String Global)) (a : String Global) → length words ≡ 1 → a ≡ get_or words 0 a → texts words ≡ string_bytes a ∷ []
one_word [] a one is = absurd (omega arith)
one_word (x ∷ []) a one is = ap (λ (w : String Global). string_bytes w ∷ []) (sym is)
one_word (x ∷ y ∷ more) a one is = absurd (omega arith)

pub alone_text : {a b : List ℕ} → (a ∷ []) ≡ (b ∷ []) → a ≡ b
alone_text is = cc
