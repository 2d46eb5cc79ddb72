-- The text of a part with one frame more.
use Rattle.std.specs.Prelude.{◌≡◌, ◌+◌, ◌++◌, ◌∷◌, ℕ, List, [], codes}
use Rattle.std.proofs.Common.{sym, ap, ◌∙◌}
use Rattle.std.proofs.lemmas.List.{flat_map_more, length_push}
use Rattle.log_format.specs.Exports.{frame_text}
use Rattle.watch_state.specs.Texts.{HasFrames, Written}

pub one_more : (frames : List (List ℕ)) (old new : Written) (frame : List ℕ)
    → new.text ≡ old.text ++ frame_text frame → new.count ≡ old.count + 1 → HasFrames frames old → HasFrames (frames ++ frame ∷ []) new
one_more frames old new frame text count h = record {
  text = text ∙ ap (λ (t : List ℕ). t ++ frame_text frame) h.text ∙ flat_map_more frame_text (codes "HSL1") frames frame;
  count = count ∙ ap (λ (n : ℕ). n + 1) h.count ∙ sym (length_push frames frame);
}
