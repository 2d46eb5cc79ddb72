-- The frames of a text, as the loop meets them.
use Rattle.std.proofs.Common.{◌≡◌, inr, ℕ, ◌+◌, ◌-◌, ◌<◌, ◌≤◌, List, [], ◌∷◌, ◌++◌, false, length, take, drop, map, All, Bor, refl, sym, ap, ◌∙◌, arith, append_assoc}
use Rattle.std.proofs.lemmas.List.{length-append, length-take, length-drop, length_push, take_rest, flat_map_more}
use Rattle.std.proofs.lemmas.List.Elements.{All-nil, All-push}
use Rattle.std.specs.Prelude.{codes}
use Rattle.std.specs.List.{flat_map}
use Rattle.base_wire.specs.Pieces.{number_at, AreBytes}
use Rattle.base_wire.specs.Payloads.{IsPayload}
use Rattle.log_format.specs.Exports.{frame_text}
use Rattle.log_format.specs.Fronts.{IsFrame, AreFramesOf}
use Rattle.log_format.specs.Readings.{Ends, IsReading}
use Rattle.log_format.specs.declared.status.Status.{Status}
use Rattle.log_format.proofs.Texts.{frame_found, length-frame_text}
use Rattle.log_format.proofs.ReadingProofs.{begins_with}

-- where as many bytes stand behind a length as it names, a frame stands there
pub frame_at : (text : List ℕ) (n : ℕ) → AreBytes text → 4 + n ≤ length text → number_at 4 text 0 ≡ n → 0 < n → n ≤ 65536
    → IsFrame text (take n (drop 4 text)) (drop (4 + n) text)
frame_at text n fit long number some small = record {
  split = frame_found text n fit long number;
  size = (omega (arith, length-take n (drop 4 text), length-drop 4 text), omega (arith, length-take n (drop 4 text), length-drop 4 text));
}

-- what these are parts of the text
abbrev pub parts : List (Bor (List ℕ)) → List (List ℕ)
parts frames = map (λ s. s.now) frames

-- the frames so far, and the rest of the text
pub record IsReadSoFar (text : List ℕ) (frames : List (List ℕ)) (rest : List ℕ) : Type 0 where
  pub split : text ≡ flat_map frame_text frames ++ rest
  pub sizes : All IsPayload frames
  pub few : length frames ≤ 4096

-- one frame more
pub read_more : (text : List ℕ) (frames : List (List ℕ)) (rest payload behind : List ℕ) → IsReadSoFar text frames rest → 0 < 4096 - length frames → IsFrame rest payload behind
    → IsReadSoFar text (frames ++ payload ∷ []) behind
read_more text frames rest payload behind so_far room frame = record {
  split = so_far.split ∙ ap (λ (t : List ℕ). flat_map frame_text frames ++ t) frame.split
      ∙ sym (append_assoc (flat_map frame_text frames) (frame_text payload) behind)
      ∙ ap (λ (t : List ℕ). t ++ behind) (flat_map_more frame_text [] frames payload);
  sizes = All-push IsPayload frames payload so_far.sizes frame.size;
  few = omega (arith, room, length_push frames payload);
}

pub read_none : (text : List ℕ) → IsReadSoFar text [] text
read_none text = record { split = refl; sizes = All-nil IsPayload; few = omega arith }

-- all that was read
pub read_all : (text : List ℕ) (frames : List (List ℕ)) (rest : List ℕ) (status : Status) → IsReadSoFar text frames rest → Ends false (length frames) (4096 - length frames) rest status
    → AreFramesOf false 4096 text frames status
read_all text frames rest status so_far ends = record { rest = rest; split = so_far.split; sizes = so_far.sizes; few = so_far.few; ends = ends }

-- the frames behind the magic are those of the stream
pub reading_of : (stream text : List ℕ) (frames : List (List ℕ)) (status : Status) → take 4 stream ≡ codes "HSL1" → text ≡ drop 4 stream → AreFramesOf false 4096 text frames status
    → IsReading 0 stream false frames status
reading_of stream text frames status magic behind are = inr (inr (record {
  rest = are.rest;
  split = begins_with stream magic ∙ ap (λ (t : List ℕ). codes "HSL1" ++ t) (sym behind ∙ are.split);
  sizes = are.sizes;
  few = are.few;
  ends = are.ends;
}))

-- the same parts, as the code cuts them
pub frame_cut : (text : List ℕ) (n : ℕ) → AreBytes text → 4 + n ≤ length text → number_at 4 text 0 ≡ n → 0 < n → n ≤ 65536
    → IsFrame text (take (4 + n - 4) (drop 4 text)) (take (length text - (4 + n)) (drop (4 + n) text))
frame_cut text n fit long number some small =
    let size : 4 + n - 4 ≡ n = omega arith in
    rw (size, take_rest text (4 + n)) (frame_at text n fit long number some small)

pub shorter : (text payload behind : List ℕ) → IsFrame text payload behind → length behind < length text
shorter text payload behind frame = omega (arith, ap length frame.split, length-append (frame_text payload) behind, length-frame_text payload)
