-- A line that is put piece by piece.
use Rattle.std.proofs.Common.{◌≡◌, ◌++◌, ◌∙◌, ℕ, List, Option, ap, append_assoc}
use Rattle.std.specs.Prelude.{codes}
use Rattle.handover_renewals.specs.declared.judging.RenewalRefusal.{RenewalRefusal}
use Rattle.program_follow.specs.RenewalLines.{named_text, renews_not_line, slot_text}

-- each text is the one before with the next piece
pub line_put : (t t1 t2 t3 t4 : List ℕ) (refusal : RenewalRefusal) (slot : Option ℕ) → t1 ≡ t ++ codes "renews not: " → t2 ≡ t1 ++ named_text refusal → t3 ≡ t2 ++ slot_text slot → t4 ≡ t3 ++ codes "\n"
    → t4 ≡ t ++ renews_not_line refusal slot
unfolding renews_not_line
line_put t t1 t2 t3 t4 refusal slot first second third fourth =
    fourth ∙ ap (λ (x : List ℕ). x ++ codes "\n") (third ∙ ap (λ (x : List ℕ). x ++ slot_text slot) (second ∙ ap (λ (x : List ℕ). x ++ named_text refusal) first))
    ∙ simp append_assoc
