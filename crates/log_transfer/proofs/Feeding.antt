-- A stream that comes in pieces.
use Rattle.std.proofs.Common.{◌≡◌, ◌≢◌, inl, inr, ℕ, ◌+◌, ◌-◌, ◌≤◌, List, [], ◌++◌, Bool, true, false, Option, Some, None, length, take, drop, refl, sym, ap, subst, ◌∙◌, arith, append_assoc}
use Rattle.std.specs.Prelude.{codes}
use Rattle.std.specs.List.{flat_map}
use Rattle.std.proofs.lemmas.Bool.{false≢true}
use Rattle.std.proofs.lemmas.List.{append-nil, drop-drop, length-append, length-drop, take-append-le}
use Rattle.log_format.specs.Exports.{frame_text}
use Rattle.log_format.specs.Readings.{IsReading, unfinished}
use Rattle.log_format.proofs.Endings.{ends_open}
use Rattle.log_format.specs.declared.status.Status.{Status}
use Rattle.log_format.specs.declared.status.Status.TheVariants.{Broken}
use Rattle.log_format.proofs.ReadingProofs.{begins_with}
use Rattle.log_transfer.specs.Pulled.{IsArrived, IsDecided, IsPulled, IsSoFar, IsStart, IsTaken, IsUndecided, room_of}
use Rattle.log_transfer.specs.declared.reading_on.Start.TheVariants.{From}

-- what came before the magic
pub arrived_short : (held : ℕ) (stream : List ℕ) (begun : Bool) (frames : List (List ℕ)) (text : List ℕ) → begun ≡ false → IsArrived held stream begun frames text → (frames ≡ []) × (stream ≡ text)
arrived_short held stream true frames text is a = absurd (false≢true (sym is))
arrived_short held stream false frames text is a = a

pub bad_magic : (held : ℕ) (stream : List ℕ) (begun : Bool) (frames : List (List ℕ)) (text : List ℕ) → begun ≡ false → 4 ≤ length text → take 4 text ≢ codes "HSL1" → IsArrived held stream begun frames text → IsDecided held stream frames Broken
bad_magic held stream begun frames text is came other a failed more =
    let s = arrived_short held stream begun frames text is a in
    let same : take 4 (stream ++ more) ≡ take 4 text = ap (λ (t : List ℕ). take 4 (t ++ more)) s.1 ∙ take-append-le 4 text more came in
    inr (inl (record { came = omega (arith, length-append stream more, ap length s.1); other = λ e. other (sym same ∙ e); none = s.0; named = refl }))

pub arrived_from : (held : ℕ) (stream : List ℕ) (begun : Bool) (frames : List (List ℕ)) (text : List ℕ) (n : ℕ) → IsStart begun text (From n) → IsArrived held stream begun frames text → IsSoFar held stream frames (drop n text)
arrived_from held stream true frames text n start a = subst (λ (k : ℕ). IsSoFar held stream frames (drop k text)) (sym start.1) a
arrived_from held stream false frames text n start a =
    subst (λ (k : ℕ). IsSoFar held stream frames (drop k text)) (sym start.1.0)
    (subst (λ (fs : List (List ℕ)). IsSoFar held stream fs (drop 4 text)) (sym a.0)
    (record { split = a.1 ∙ begins_with text start.1.1; sizes = λ k x l. absurd (omega arith); few = omega arith }))

-- frames that were taken
taken_on : (held : ℕ) (stream : List ℕ) (frames : List (List ℕ)) (rest : List ℕ) (ended : Option Status) → IsSoFar held stream frames rest
    → ((text : List ℕ) (old : List (List ℕ)) → IsTaken held text old frames rest ended → IsPulled held stream true frames rest ended)
taken_on held stream frames rest None so_far text old taken = (so_far, taken.goes_on)
taken_on held stream frames rest (Some status) so_far text old taken = λ failed more. inr (inr (record {
  rest = rest ++ more;
  split = ap (λ (t : List ℕ). t ++ more) so_far.split ∙ append_assoc (codes "HSL1") (flat_map frame_text frames ++ rest) more
      ∙ ap (λ (t : List ℕ). codes "HSL1" ++ t) (append_assoc (flat_map frame_text frames) rest more);
  sizes = so_far.sizes;
  few = so_far.few;
  ends = taken.goes_on failed more;
}))

pub pulled_on : (held : ℕ) (stream : List ℕ) (begun : Bool) (old new : List (List ℕ)) (text : List ℕ) (n left : ℕ) (ended : Option Status) → IsStart begun text (From n) → left ≤ length (drop n text)
    → IsTaken held (drop n text) old new (drop (length (drop n text) - left) (drop n text)) ended → IsArrived held stream begun old text → IsPulled held stream true new (drop (length text - left) text) ended
pulled_on held stream begun old new text n left ended start within taken a =
    let behind = drop n text in
    let rest = drop (length behind - left) behind in
    let size = length-drop n text in
    let place : n + (length behind - left) ≡ length text - left = omega (arith, size, within, start.0) in
    let same : rest ≡ drop (length text - left) text = drop-drop (length behind - left) n text ∙ ap (λ (k : ℕ). drop k text) place in
    subst (λ (t : List ℕ). IsPulled held stream true new t ended) same
    (taken_on held stream new rest ended (taken.so_far stream (arrived_from held stream begun old text n start a)) behind old taken)

-- ---- a piece

pub arrived : (held : ℕ) (stream : List ℕ) (begun : Bool) (frames : List (List ℕ)) (rest piece : List ℕ) → IsUndecided held stream begun frames rest → IsArrived held (stream ++ piece) begun frames (rest ++ piece)
arrived held stream true frames rest piece u = record {
  split = ap (λ (t : List ℕ). t ++ piece) u.0.split ∙ append_assoc (codes "HSL1") (flat_map frame_text frames ++ rest) piece
      ∙ ap (λ (t : List ℕ). codes "HSL1" ++ t) (append_assoc (flat_map frame_text frames) rest piece);
  sizes = u.0.sizes;
  few = u.0.few;
}
arrived held stream false frames rest piece u = (u.0, ap (λ (t : List ℕ). t ++ piece) u.1)

pub decided_more : (held : ℕ) (stream piece : List ℕ) (frames : List (List ℕ)) (status : Status) → IsDecided held stream frames status → IsDecided held (stream ++ piece) frames status
decided_more held stream piece frames status d failed more = subst (λ (t : List ℕ). IsReading held t failed frames status) (sym (append_assoc stream piece more)) (d failed (piece ++ more))

-- what is not decided reads as unfinished
pub undecided_reads : (held : ℕ) (stream : List ℕ) (begun failed : Bool) (frames : List (List ℕ)) (rest : List ℕ) → IsUndecided held stream begun frames rest → IsReading held stream failed frames (unfinished failed)
undecided_reads held stream true failed frames rest u = inr (inr (record { rest = rest; split = u.0.split; sizes = u.0.sizes; few = u.0.few; ends = ends_open failed (length frames) (room_of held frames) rest u.1 }))
undecided_reads held stream false failed frames rest u = inl (record { short = omega (arith, ap length u.1, u.2); none = u.0; named = refl })

pub decided_reads : (held : ℕ) (stream : List ℕ) (failed : Bool) (frames : List (List ℕ)) (status : Status) → IsDecided held stream frames status → IsReading held stream failed frames status
decided_reads held stream failed frames status d = subst (λ (t : List ℕ). IsReading held t failed frames status) (append-nil stream) (d failed [])
