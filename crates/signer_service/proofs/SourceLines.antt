-- The lines of the sources, one after another.
use Rattle.std.proofs.Common.{◌≡◌, ◌<◌, ◌+◌, ◌∙◌, ℕ, zero, suc, Bool, false, List, [], ◌∷◌, ◌++◌, add-one, ap, append_assoc, append-nil, arith, length, subst, sym, take}
use Rattle.std.specs.Prelude.{slice_index_or}
use Rattle.signer_service.specs.Metrics.{source_lines, source_text}

-- those of one source more
pub one_line_more : (at : ℕ) (heard : List Bool) (i n : ℕ) → i < length heard → n ≡ at + i
    → source_lines at (take (suc i) heard) ≡ source_lines at (take i heard) ++ source_text n (slice_index_or heard i false)
one_line_more at [] i n lt is = absurd (omega (arith, lt))
one_line_more at (h ∷ heard) zero n lt is =
    let same : at ≡ n = omega (arith, is) in append-nil (source_text at h) ∙ ap (λ (k : ℕ). source_text k h) same
one_line_more at (h ∷ heard) (suc i) n lt is =
    let more = one_line_more (at + 1) heard i n (omega (arith, lt)) (omega (arith, is)) in
    ap (λ (l : List ℕ). source_text at h ++ l) more
    ∙ sym (append_assoc (source_text at h) (source_lines (at + 1) (take i heard)) (source_text n (slice_index_or heard i false)))

-- .. from the first on
pub first_lines_more : (heard : List Bool) (i : ℕ) → i < length heard
    → source_lines 0 (take (i + 1) heard) ≡ source_lines 0 (take i heard) ++ source_text i (slice_index_or heard i false)
first_lines_more heard i lt =
    subst (λ (n : ℕ). source_lines 0 (take n heard) ≡ source_lines 0 (take i heard) ++ source_text i (slice_index_or heard i false))
    (sym (add-one i)) (one_line_more 0 heard i i lt (omega arith))
