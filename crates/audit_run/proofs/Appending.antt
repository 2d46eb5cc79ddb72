-- Frames that are written one after the other.
use Rattle.std.proofs.Common.{◌≡◌, ◌∙◌, ◌+◌, ◌++◌, ◌∷◌, [], ℕ, List, Option, Some, None, length, false, true, refl, sym, ap, subst, arith, append_assoc}
use Rattle.std.specs.Prelude.{codes}
use Rattle.std.specs.List.{flat_map}
use Rattle.std.proofs.lemmas.Bool.{false≢true}
use Rattle.std.proofs.lemmas.List.{append-nil, length_push}
use Rattle.std.proofs.lemmas.List.Concat.{flat_map-append}
use Rattle.std.proofs.Math.Seq.{take-length}
use Rattle.base_streams.specs.Streams.{Wrote, WrotePart}
use Rattle.base_streams.proofs.Writing.{wrote_both}
use Rattle.log_format.specs.Exports.{end_mark, frame_text, stream_text}
use Rattle.log_format.specs.declared.status.Status.{Status}
use Rattle.log_format.specs.declared.status.Status.TheVariants.{Whole, Cut, Broken, TooLong, Failed}
use Rattle.log_export.proofs.Parts.{part_behind, part_of_front}
use Rattle.audit_evidence.specs.Logs.{ReceivedLog}
use Rattle.audit_run.specs.Kept.{kept_text, text_of}
use Rattle.audit_run.specs.Written.{IsAppended, IsWritten, Writing, mark_of, text_behind}

-- one frame more
more : (count : ℕ) (frames : List (List ℕ)) (x : List ℕ) → text_behind count frames None ++ frame_text x ≡ text_behind count (frames ++ x ∷ []) None
more count frames x =
    append_assoc (flat_map frame_text frames) [] (frame_text x)
    ∙ ap (λ (y : List ℕ). flat_map frame_text frames ++ y) (sym (append-nil (frame_text x)))
    ∙ sym (flat_map-append frame_text frames (x ∷ []))
    ∙ sym (append-nil (flat_map frame_text (frames ++ x ∷ [])))

-- .. and how they end
ended : (count : ℕ) (frames : List (List ℕ)) (end : Option Status) → text_behind count frames None ++ mark_of (count + length frames) end ≡ text_behind count frames end
ended count frames end = append_assoc (flat_map frame_text frames) [] (mark_of (count + length frames) end)

pub one_frame_more : (s t u : Writing) (frames : List (List ℕ)) (x : List ℕ) → IsAppended s t frames None → Wrote t.given u.given (frame_text x) → u.count ≡ t.count + 1 → u.failed ≡ t.failed → IsAppended s u (frames ++ x ∷ []) None
one_frame_more s t u frames x so_far wrote counted same = record {
  wrote = subst (λ (text : List ℕ). Wrote s.given u.given text) (more s.count frames x) (wrote_both s.given t.given u.given _ (frame_text x) so_far.wrote wrote);
  counted = omega (arith, so_far.counted, counted, length_push frames x);
  no_failure = same ∙ so_far.no_failure;
}

pub part_of_frame : (s t u : Writing) (frames : List (List ℕ)) (x : List ℕ) → IsAppended s t frames None → WrotePart t.given u.given (frame_text x) → WrotePart s.given u.given (text_behind s.count (frames ++ x ∷ []) None)
part_of_frame s t u frames x so_far part =
    subst (λ (text : List ℕ). WrotePart s.given u.given text) (more s.count frames x) (part_behind s.given t.given u.given _ (frame_text x) so_far.wrote part)

pub none_of_frame : (s t : Writing) (frames : List (List ℕ)) (x : List ℕ) → WrotePart s.given t.given (text_behind s.count frames None) → WrotePart s.given t.given (text_behind s.count (frames ++ x ∷ []) None)
none_of_frame s t frames x part = subst (λ (text : List ℕ). WrotePart s.given t.given text) (more s.count frames x) (part_of_front s.given t.given _ (frame_text x) part)

pub ended_whole : (s t u : Writing) (frames : List (List ℕ)) → IsAppended s t frames None → Wrote t.given u.given (end_mark t.count) → u.count ≡ t.count → u.failed ≡ t.failed → IsAppended s u frames (Some Whole)
ended_whole s t u frames so_far wrote counted same = record {
  wrote =
      subst (λ (text : List ℕ). Wrote s.given u.given text) (ended s.count frames (Some Whole))
      (wrote_both s.given t.given u.given _ _ so_far.wrote (subst (λ (n : ℕ). Wrote t.given u.given (end_mark n)) so_far.counted wrote));
  counted = counted ∙ so_far.counted;
  no_failure = same ∙ so_far.no_failure;
}

pub part_of_mark : (s t u : Writing) (frames : List (List ℕ)) → IsAppended s t frames None → WrotePart t.given u.given (end_mark t.count) → WrotePart s.given u.given (text_behind s.count frames (Some Whole))
part_of_mark s t u frames so_far part =
    subst (λ (text : List ℕ). WrotePart s.given u.given text) (ended s.count frames (Some Whole))
    (part_behind s.given t.given u.given _ _ so_far.wrote (subst (λ (n : ℕ). WrotePart t.given u.given (end_mark n)) so_far.counted part))

pub none_of_mark : (s t : Writing) (frames : List (List ℕ)) (end : Option Status) → WrotePart s.given t.given (text_behind s.count frames None) → WrotePart s.given t.given (text_behind s.count frames end)
none_of_mark s t frames end part =
    subst (λ (text : List ℕ). WrotePart s.given t.given text) (ended s.count frames end) (part_of_front s.given t.given _ (mark_of (s.count + length frames) end) part)

-- how they end, where there is no mark
pub ended_so : (s t : Writing) (frames : List (List ℕ)) (status : Status) → (status ≡ Whole → ⊥) → IsAppended s t frames None → IsAppended s t frames (Some status)
ended_so s t frames Whole other so_far = absurd (other refl)
ended_so s t frames Cut other so_far = record { wrote = so_far.wrote; counted = so_far.counted; no_failure = so_far.no_failure }
ended_so s t frames Broken other so_far = record { wrote = so_far.wrote; counted = so_far.counted; no_failure = so_far.no_failure }
ended_so s t frames TooLong other so_far = record { wrote = so_far.wrote; counted = so_far.counted; no_failure = so_far.no_failure }
ended_so s t frames Failed other so_far = record { wrote = so_far.wrote; counted = so_far.counted; no_failure = so_far.no_failure }

-- ---- a writer, step by step

nothing_more : (g : Option (List ℕ)) (text : List ℕ) → WrotePart g g text
nothing_more None text = tt
nothing_more (Some given) text = (0, ap (λ (t : List ℕ). Some t) (sym (append-nil given)))

-- one that gave up writes no more
pub stays_broken : (s t : Writing) (frames : List (List ℕ)) (x : List ℕ) → t.is_broken ≡ true → IsWritten s t frames None → IsWritten s t (frames ++ x ∷ []) None
stays_broken s t frames x broken so_far = record {
  all = λ sound. absurd (false≢true (sym sound ∙ broken));
  part = λ b. none_of_frame s t frames x (so_far.part b);
}

pub breaks : (s t u : Writing) (frames : List (List ℕ)) (x : List ℕ) → t.is_broken ≡ false → u.is_broken ≡ true → WrotePart t.given u.given (frame_text x) → IsWritten s t frames None → IsWritten s u (frames ++ x ∷ []) None
breaks s t u frames x sound broken part so_far = record {
  all = λ other. absurd (false≢true (sym other ∙ broken));
  part = λ b. part_of_frame s t u frames x (so_far.all sound) part;
}

-- .. with nothing more written
pub gives_up : (s t u : Writing) (frames : List (List ℕ)) (x : List ℕ) → t.is_broken ≡ false → u.is_broken ≡ true → t.given ≡ u.given → IsWritten s t frames None → IsWritten s u (frames ++ x ∷ []) None
gives_up s t u frames x sound broken same so_far =
    breaks s t u frames x sound broken (subst (λ (g : Option (List ℕ)). WrotePart t.given g (frame_text x)) same (nothing_more t.given (frame_text x))) so_far

pub goes_on : (s t u : Writing) (frames : List (List ℕ)) (x : List ℕ) → t.is_broken ≡ false → u.is_broken ≡ t.is_broken → Wrote t.given u.given (frame_text x) → u.count ≡ t.count + 1 → u.failed ≡ t.failed → IsWritten s t frames None → IsWritten s u (frames ++ x ∷ []) None
goes_on s t u frames x sound same wrote counted failed so_far = record {
  all = λ _. one_frame_more s t u frames x (so_far.all sound) wrote counted failed;
  part = λ broken. absurd (false≢true (sym sound ∙ sym same ∙ broken));
}

pub end_of_broken : (s t : Writing) (frames : List (List ℕ)) (status : Status) → t.is_broken ≡ true → IsWritten s t frames None → IsWritten s t frames (Some status)
end_of_broken s t frames status broken so_far = record {
  all = λ sound. absurd (false≢true (sym sound ∙ broken));
  part = λ b. none_of_mark s t frames (Some status) (so_far.part b);
}

pub end_with_none : (s t : Writing) (frames : List (List ℕ)) (status : Status) → t.is_broken ≡ false → (status ≡ Whole → ⊥) → IsWritten s t frames None → IsWritten s t frames (Some status)
end_with_none s t frames status sound other so_far = record {
  all = λ _. ended_so s t frames status other (so_far.all sound);
  part = λ broken. absurd (false≢true (sym sound ∙ broken));
}

pub end_with_mark : (s t u : Writing) (frames : List (List ℕ)) (status : Status) → t.is_broken ≡ false → u.is_broken ≡ t.is_broken → status ≡ Whole → Wrote t.given u.given (end_mark t.count) → u.count ≡ t.count → u.failed ≡ t.failed
    → IsWritten s t frames None → IsWritten s u frames (Some status)
end_with_mark s t u frames status sound same whole wrote counted failed so_far =
    subst (λ (x : Status). IsWritten s u frames (Some x)) (sym whole) (record {
      all = λ _. ended_whole s t u frames (so_far.all sound) wrote counted failed;
      part = λ broken. absurd (false≢true (sym sound ∙ sym same ∙ broken));
    })

pub end_breaks : (s t u : Writing) (frames : List (List ℕ)) (status : Status) → t.is_broken ≡ false → u.is_broken ≡ true → status ≡ Whole → WrotePart t.given u.given (end_mark t.count) → IsWritten s t frames None → IsWritten s u frames (Some status)
end_breaks s t u frames status sound broken whole part so_far =
    subst (λ (x : Status). IsWritten s u frames (Some x)) (sym whole) (record {
      all = λ other. absurd (false≢true (sym other ∙ broken));
      part = λ b. part_of_mark s t u frames (so_far.all sound) part;
    })

-- ---- all of a log

-- behind what begins a stream these are what is kept of the log
kept_is : (frames : List (List ℕ)) (status : Status) → codes "HSL1" ++ text_behind 0 frames (Some status) ≡ text_of frames status
kept_is frames Whole =
    ap (λ (n : ℕ). codes "HSL1" ++ (flat_map frame_text frames ++ end_mark n)) zero_more
    ∙ sym (ap (λ (l : List (List ℕ)). stream_text l) (take-length frames))
  where
    zero_more : 0 + length frames ≡ length frames
    zero_more = omega arith
kept_is frames Cut = ap (λ (t : List ℕ). codes "HSL1" ++ t) (append-nil (flat_map frame_text frames))
kept_is frames Broken = ap (λ (t : List ℕ). codes "HSL1" ++ t) (append-nil (flat_map frame_text frames))
kept_is frames TooLong = ap (λ (t : List ℕ). codes "HSL1" ++ t) (append-nil (flat_map frame_text frames))
kept_is frames Failed = ap (λ (t : List ℕ). codes "HSL1" ++ t) (append-nil (flat_map frame_text frames))

pub kept_whole : (before : Option (List ℕ)) (s t : Writing) (l : ReceivedLog) → Wrote before s.given (codes "HSL1") → s.count ≡ 0 → t.is_broken ≡ false → IsWritten s t l.frames (Some l.status) → Wrote before t.given (kept_text l)
unfolding kept_text
kept_whole before s t l begun none sound written =
    subst (λ (text : List ℕ). Wrote before t.given text) (kept_is l.frames l.status)
    (wrote_both before s.given t.given (codes "HSL1") _ begun (subst (λ (n : ℕ). Wrote s.given t.given (text_behind n l.frames (Some l.status))) none (written.all sound).wrote))
