-- One frame more of what came.
use Rattle.std.proofs.Common.{◌≡◌, ℕ, ◌+◌, ◌-◌, ◌<◌, ◌≤◌, List, [], ◌∷◌, ◌++◌, length, take, drop, refl, sym, ap, ◌∙◌, arith, append_assoc}
use Rattle.std.specs.Prelude.{codes}
use Rattle.std.specs.List.{flat_map}
use Rattle.std.proofs.lemmas.List.{length-append, length_push, drop-drop, drop_at, flat_map_more, length-take, take-append-le}
use Rattle.std.proofs.lemmas.List.Elements.{All-push}
use Rattle.base_wire.specs.Payloads.{IsPayload}
use Rattle.log_format.specs.Exports.{frame_text}
use Rattle.log_format.specs.Fronts.{IsFrame}
use Rattle.log_format.specs.Readings.{room_beside}
use Rattle.log_transfer.specs.Pulled.{IsSoFar}

pub so_far_more : (held : ℕ) (stream : List ℕ) (frames : List (List ℕ)) (rest payload behind : List ℕ) → 0 < room_beside held - length frames → IsFrame rest payload behind → IsSoFar held stream frames rest → IsSoFar held stream (frames ++ payload ∷ []) behind
so_far_more held stream frames rest payload behind some frame so_far = record {
  split = so_far.split ∙ ap (λ (t : List ℕ). codes "HSL1" ++ t) (
      ap (λ (t : List ℕ). flat_map frame_text frames ++ t) frame.split
      ∙ sym (append_assoc (flat_map frame_text frames) (frame_text payload) behind)
      ∙ ap (λ (t : List ℕ). t ++ behind) (flat_map_more frame_text [] frames payload));
  sizes = All-push IsPayload frames payload so_far.sizes frame.size;
  few = omega (arith, some, length_push frames payload);
}

-- what stands behind a frame of the rest stands behind it in the text
pub behind_of : (text rest payload behind : List ℕ) → length rest ≤ length text → rest ≡ drop (length text - length rest) text → IsFrame rest payload behind → behind ≡ drop (length text - length behind) text
behind_of text rest payload behind within is frame =
    let n = length (frame_text payload) in
    let size : length rest ≡ n + length behind = ap length frame.split ∙ length-append (frame_text payload) behind in
    let place : length text - length rest + n ≡ length text - length behind = omega (arith, within, size) in
    sym (drop_at (frame_text payload) behind n refl) ∙ ap (λ (t : List ℕ). drop n t) (sym frame.split ∙ is) ∙ drop-drop n (length text - length rest) text ∙ ap (λ (k : ℕ). drop k text) place

pub kept_more : (old frames : List (List ℕ)) (x : List ℕ) → take (length old) frames ≡ old → take (length old) (frames ++ x ∷ []) ≡ old
kept_more old frames x is =
    let fits : length old ≤ length frames = omega (arith, ap length (sym is), length-take (length old) frames) in
    take-append-le (length old) frames (x ∷ []) fits ∙ is
