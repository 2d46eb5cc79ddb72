-- What is kept of a log, as a later reader finds it.
use Rattle.std.proofs.Common.{◌≡◌, inl, inr, ℕ, ◌≤◌, List, [], ◌++◌, length, refl, sym, ap, subst, arith}
use Rattle.std.specs.Prelude.{codes, false}
use Rattle.std.proofs.Math.Seq.{take-length}
use Rattle.std.proofs.lemmas.List.{append-nil}
use Rattle.std.specs.List.{All, flat_map}
use Rattle.base_wire.specs.Payloads.{IsPayload}
use Rattle.base_wire.specs.declared.limits.TheConstants.{MOST_ENTRIES}
use Rattle.log_format.specs.Exports.{asked_for, export_text, frame_text}
use Rattle.log_format.specs.Readings.{IsReading}
use Rattle.log_format.specs.declared.status.Status.{Status}
use Rattle.log_format.specs.declared.status.Status.TheVariants.{Whole, Cut, Broken, TooLong, Failed}
use Rattle.log_format.proofs.ReadingProofs.{reads_back}
use Rattle.log_export.specs.Sent.{cut_text}
use Rattle.audit_run.specs.Kept.{kept_status, text_of}

-- with no end mark it is Cut
cut_reading : (frames : List (List ℕ)) → All IsPayload frames → length frames ≤ MOST_ENTRIES → IsReading 0 (cut_text frames) false frames Cut
cut_reading frames sizes few = inr (inr (record {
  rest = [];
  split = ap (λ (t : List ℕ). codes "HSL1" ++ t) (sym (append-nil (flat_map frame_text frames)));
  sizes = sizes;
  few = few;
  ends = (refl, inl (omega arith));
}))

-- all of the frames were asked for
all_asked : (frames : List (List ℕ)) → asked_for frames 0 (length frames) ≡ frames
all_asked frames = take-length frames

whole_reading : (frames : List (List ℕ)) → All IsPayload frames → length frames ≤ MOST_ENTRIES → IsReading 0 (export_text frames 0 (length frames)) false frames Whole
whole_reading frames sizes few =
    subst (λ (xs : List (List ℕ)). IsReading 0 (export_text frames 0 (length frames)) false xs Whole) (all_asked frames)
    (reads_back 0 0 (length frames) frames false sizes (subst (λ (xs : List (List ℕ)). length xs ≤ MOST_ENTRIES) (sym (all_asked frames)) few))

pub kept_reading : (frames : List (List ℕ)) (status : Status) → All IsPayload frames → length frames ≤ MOST_ENTRIES
    → IsReading 0 (text_of frames status) false frames (kept_status status)
kept_reading frames Whole sizes few = whole_reading frames sizes few
kept_reading frames Cut sizes few = cut_reading frames sizes few
kept_reading frames Broken sizes few = cut_reading frames sizes few
kept_reading frames TooLong sizes few = cut_reading frames sizes few
kept_reading frames Failed sizes few = cut_reading frames sizes few
