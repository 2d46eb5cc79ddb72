-- What a sink was given, and behind it a part of something.
use Rattle.std.proofs.Common.{inl, inr, ◌≡◌, ◌+◌, ◌<◌, ℕ, List, ◌++◌, Option, Some, None, length, refl, sym, ap, ◌∙◌, subst, append_assoc, take, drop, arith}
use Rattle.std.specs.Prelude.{Bool, true, false, [], Result, Ok, Err, OnErr, codes, if◌then◌else◌, slice_index_or}
use Rattle.std.specs.List.{flat_map}
use Rattle.std.proofs.lemmas.List.{flat_map_more, take_all, take_at, take_more, take-append-drop, take-append-le}
use Rattle.std.proofs.lemmas.Bool.{cases_lt}
use Rattle.std.proofs.lemmas.List.Concat.{flat_map-append}
use Rattle.std.proofs.Math.Seq.{take-append-add}
use Rattle.base_streams.specs.Streams.{Wrote, WrotePart}
use Rattle.log_format.specs.Exports.{end_mark, frame_text, stream_text}
use Rattle.log_export.specs.Sent.{cut_text, sent_text}
use Rattle.log_export.specs.Splits.{JournalReading}

pub on_err : {T E : Type 0} (r : Result T E) (P : Type 0) → P → OnErr r P
on_err (Ok x) P holds = tt
on_err (Err e) P holds = holds

pub on_err_too : {T E : Type 0} (r : Result T E) (P Q : Type 0) → (P → Q) → OnErr r P → OnErr r Q
on_err_too (Ok x) P Q so holds = tt
on_err_too (Err e) P Q so holds = so holds

-- a part of the front is a part of the whole
pub part_of_front : (before after : Option (List ℕ)) (first second : List ℕ) → WrotePart before after first → WrotePart before after (first ++ second)
part_of_front None after first second part = tt
part_of_front (Some text) after first second part = elim (cases_lt (length first) part.0) [
  | inl past ↦ (length first, part.1 ∙ ap (λ (t : List ℕ). Some (text ++ t)) (take_all part.0 first (omega (arith, past)) ∙ sym (take_at first second (length first) refl)))
  | inr within ↦ (part.0, part.1 ∙ ap (λ (t : List ℕ). Some (text ++ t)) (sym (take-append-le part.0 first second within)))
]

-- behind what was written whole, a part of the rest
pub part_behind : (before mid after : Option (List ℕ)) (first second : List ℕ) → Wrote before mid first → WrotePart mid after second → WrotePart before after (first ++ second)
part_behind None mid after first second wrote part = tt
part_behind (Some text) mid after first second wrote part =
    let told : WrotePart (Some (text ++ first)) after second = subst (λ (m : Option (List ℕ)). WrotePart m after second) wrote part in (
      length first + told.0,
      told.1 ∙ ap (λ (t : List ℕ). Some t) (append_assoc text first (take told.0 second) ∙ ap (λ (t : List ℕ). text ++ t) (sym (take-append-add first second told.0))),
    )

-- ---- frames

-- the first frames, and behind them the others
cut_split : (payloads : List (List ℕ)) (k : ℕ) → cut_text payloads ≡ cut_text (take k payloads) ++ flat_map frame_text (drop k payloads)
cut_split payloads k =
    ap (λ (l : List (List ℕ)). cut_text l) (sym (take-append-drop k payloads))
    ∙ ap (λ (t : List ℕ). codes "HSL1" ++ t) (flat_map-append frame_text (take k payloads) (drop k payloads))
    ∙ sym (append_assoc (codes "HSL1") (flat_map frame_text (take k payloads)) (flat_map frame_text (drop k payloads)))

-- the first frames, and one more
cut_more : (payloads : List (List ℕ)) (k : ℕ) → k < length payloads → cut_text (take (k + 1) payloads) ≡ cut_text (take k payloads) ++ frame_text (slice_index_or payloads k [])
cut_more payloads k below =
    ap (λ (l : List (List ℕ)). cut_text l) (take_more payloads k [] below)
    ∙ sym (flat_map_more frame_text (codes "HSL1") (take k payloads) (slice_index_or payloads k []))

-- a part of a frame behind those before it is a part of the frames
pub frames_part : (before mid after : Option (List ℕ)) (payloads : List (List ℕ)) (k : ℕ) → k < length payloads
    → Wrote before mid (cut_text (take k payloads)) → WrotePart mid after (frame_text (slice_index_or payloads k [])) → WrotePart before after (cut_text payloads)
frames_part before mid after payloads k below wrote part =
    let up_to : WrotePart before after (cut_text (take (k + 1) payloads)) =
    subst (λ (t : List ℕ). WrotePart before after t) (sym (cut_more payloads k below))
    (part_behind before mid after (cut_text (take k payloads)) (frame_text (slice_index_or payloads k [])) wrote part) in
    subst (λ (t : List ℕ). WrotePart before after t) (sym (cut_split payloads (k + 1)))
    (part_of_front before after (cut_text (take (k + 1) payloads)) (flat_map frame_text (drop (k + 1) payloads)) up_to)

-- a part of the head is one of them too
pub head_part : (before after : Option (List ℕ)) (payloads : List (List ℕ)) → WrotePart before after (codes "HSL1") → WrotePart before after (cut_text payloads)
head_part before after payloads part = part_of_front before after (codes "HSL1") (flat_map frame_text payloads) part

-- ---- what is sent of a journal

-- the stream is the frames, and behind them its end mark
stream_split : (payloads : List (List ℕ)) → cut_text payloads ++ end_mark (length payloads) ≡ stream_text payloads
stream_split payloads = append_assoc (codes "HSL1") (flat_map frame_text payloads) (end_mark (length payloads))

-- a part of the frames is a part of it
pub sent_part : (before after : Option (List ℕ)) (r : JournalReading) → WrotePart before after (cut_text r.payloads) → WrotePart before after (sent_text r)
sent_part before after r part = of_either r.whole
  where
    of_either : (whole : Bool) → WrotePart before after (if whole then stream_text r.payloads else cut_text r.payloads)
    of_either true =
        subst (λ (t : List ℕ). WrotePart before after t) (stream_split r.payloads)
        (part_of_front before after (cut_text r.payloads) (end_mark (length r.payloads)) part)
    of_either false = part

-- behind the frames a part of the end mark
pub mark_part : (before mid after : Option (List ℕ)) (r : JournalReading) (count : ℕ) → r.whole ≡ true → count ≡ length r.payloads
    → Wrote before mid (cut_text r.payloads) → WrotePart mid after (end_mark count) → WrotePart before after (sent_text r)
mark_part before mid after r count whole counted wrote part =
    subst (λ (w : Bool). WrotePart before after (if w then stream_text r.payloads else cut_text r.payloads)) (sym whole)
    (subst (λ (t : List ℕ). WrotePart before after t) (stream_split r.payloads)
    (part_behind before mid after (cut_text r.payloads) (end_mark (length r.payloads)) wrote (subst (λ (n : ℕ). WrotePart mid after (end_mark n)) counted part)))
