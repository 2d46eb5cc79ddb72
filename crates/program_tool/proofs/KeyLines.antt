-- The lines of keys, one after the other.
use Rattle.std.proofs.Common.{◌≡◌, ◌<◌, ◌+◌, ◌++◌, ◌∷◌, ◌∙◌, [], ℕ, List, ap, append_assoc, append-nil, length, sym, take}
use Rattle.std.specs.Prelude.{slice_index_or}
use Rattle.std.proofs.lemmas.List.{take_more}
use Rattle.program_tool.specs.NextKeys.{key_line, key_lines}

one_more : (keys : List (List ℕ)) (key : List ℕ) → key_lines (keys ++ key ∷ []) ≡ key_lines keys ++ key_line key
one_more [] key = append-nil (key_line key)
one_more (k ∷ keys) key =
    ap (λ (text : List ℕ). key_line k ++ text) (one_more keys key) ∙ sym (append_assoc (key_line k) (key_lines keys) (key_line key))

pub lines_more : (keys : List (List ℕ)) (i : ℕ) (d : List ℕ) → i < length keys → key_lines (take (i + 1) keys) ≡ key_lines (take i keys) ++ key_line (slice_index_or keys i d)
lines_more keys i d within = ap key_lines (take_more keys i d within) ∙ one_more (take i keys) (slice_index_or keys i d)
