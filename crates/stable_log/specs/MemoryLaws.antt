-- The laws that `Disk` asks of a disk in memory. They stand here since a law of a trait takes its proof from specs/.
use Rattle.std.specs.Prelude.{ℕ, ◌≡◌, ◌≤◌, ◌+◌, ◌++◌, List, [], ◌∷◌, length, take, drop, min, ◌-◌, refl}
use Rattle.std.proofs.Common.{sym, ap, subst, ◌∙◌, inl, inr, arith, length-append, length-take, length-drop, append_assoc}
use Rattle.std.proofs.lemmas.Bool.{cases_lt}
use Rattle.std.proofs.lemmas.List.{take_all, take_at, drop_all, drop_at, take-take}
use Rattle.stable_log.specs.Disk.{written}
use Rattle.stable_log.specs.Crash.{Torn}
use Rattle.stable_log.specs.Memory.{DiskState, fresh, step, after_calls, disk_state, IsImageOf, WasImage}
use Rattle.stable_log.specs.declared.memory_disk.Call.{Call}
use Rattle.stable_log.specs.declared.memory_disk.Call.TheVariants.{Write, Sync}

-- this moment is one of those since an earlier one
pub counts_now_of : (first : List ℕ) (calls : List Call) (t : ℕ) (image : List ℕ) → t ≤ length calls → IsImageOf (disk_state first calls) image → WasImage first calls t image
counts_now_of first calls t image le now = (length calls, le, omega arith, subst (λ (l : List Call). IsImageOf (disk_state first l) image) (sym (take_all (length calls) calls (omega arith))) now)

-- since this moment there is no other
pub only_now_of : (first : List ℕ) (calls : List Call) (image : List ℕ) → WasImage first calls (length calls) image → IsImageOf (disk_state first calls) image
only_now_of first calls image (k, le, ge, was) = subst (λ (l : List Call). IsImageOf (disk_state first l) image) (take_all k calls (omega (arith, le))) was

abbrev rest : List ℕ → List ℕ → ℕ → List ℕ
rest old piece at = drop (at + length piece) old

pub length-written : (old piece : List ℕ) (at : ℕ) → length (written old at piece) ≡ min at (length old) + length piece + (length old - (at + length piece))
length-written old piece at = omega (arith, length-append (take at old ++ piece) (rest old piece at), length-append (take at old) piece, length-take at old, length-drop (at + length piece) old)

-- a whole write is one of a torn write's outcomes
pub torn_written : (old piece : List ℕ) (at : ℕ) → Torn at (length piece) old (written old at piece)
torn_written old piece at = elim (cases_lt at (length old)) [
  | inl within ↦ record {
    before = take-take at (length old) (written old at piece) (omega (arith, within)) ∙ ap (λ (l : List ℕ). take at l) (append_assoc (take at old) piece (rest old piece at)) ∙ take_at (take at old) (piece ++ rest old piece at) at (omega (arith, within, length-take at old));
    after = elim (cases_lt (at + length piece) (length old)) [
      | inl inner ↦ ap (λ (l : List ℕ). drop (at + length piece) l) (take_all (length old) (written old at piece) (omega (arith, inner, length-written old piece at))) ∙ drop_at (take at old ++ piece) (rest old piece at) (at + length piece) (omega (arith, within, length-take at old, length-append (take at old) piece))
      | inr over ↦ drop_all (at + length piece) (take (length old) (written old at piece)) (omega (arith, over, length-take (length old) (written old at piece))) ∙ sym (drop_all (at + length piece) old over)
    ];
    no_shorter = omega (arith, within, length-written old piece at);
    no_longer = omega (arith, within, length-written old piece at);
  }
  | inr past ↦
      let same : take (length old) (written old at piece) ≡ old =
      ap (λ (l : List ℕ). take (length old) l) (append_assoc (take at old) piece (rest old piece at) ∙ ap (λ (l : List ℕ). l ++ (piece ++ rest old piece at)) (take_all at old past))
      ∙ take_at old (piece ++ rest old piece at) (length old) refl in
      record {
        before = ap (λ (l : List ℕ). take at l) same;
        after = ap (λ (l : List ℕ). drop (at + length piece) l) same;
        no_shorter = omega (arith, past, length-written old piece at);
        no_longer = omega (arith, past, length-written old piece at);
      }
]

image_step : (s : DiskState) (call : Call) → IsImageOf s s.bytes → IsImageOf (step s call) (step s call).bytes
image_step s (Write at piece) now = (s.bytes, now, torn_written s.bytes piece.items at)
image_step s Sync now = refl

image_after : (s : DiskState) (calls : List Call) → IsImageOf s s.bytes → IsImageOf (after_calls s calls) (after_calls s calls).bytes
image_after s [] now = now
image_after s (call ∷ calls) now = image_after (step s call) calls (image_step s call now)

-- the disk as it is read is one of its images
pub as_read_of : (first : List ℕ) (calls : List Call) (bytes : List ℕ) → bytes ≡ (disk_state first calls).bytes → IsImageOf (disk_state first calls) bytes
as_read_of first calls bytes is = subst (λ (l : List ℕ). IsImageOf (disk_state first calls) l) (sym is) (image_after (fresh first) calls refl)
