-- How many bytes of a connection a reader has read.
use Rattle.std.proofs.Common.{◌≡◌, ℕ, ◌≤◌, Bool, true, false, Result, Ok, Err, refl, sym, subst, ◌∙◌, arith}
use Rattle.std.specs.Prelude.{IfOk, IsErr, OnErr}
use Rattle.std.proofs.lemmas.Bool.{false≢true}
use Rattle.log_transfer.specs.Bytes.{most_of_frames}
use Rattle.log_transfer.specs.Connections.{CountsBytes}
use Rattle.log_transfer.specs.Places.{IsEnd, IsPlace}
use Rattle.log_transfer.specs.Pulls.{first_place}
use Rattle.log_transfer.specs.declared.reader_state.ReaderState.{ReaderState}

-- before the first connection
pub place_first : (taken tries : ℕ) (p : ReaderState) → p ≡ first_place tries → 1 ≤ tries → IsPlace taken p
place_first taken tries p is some =
    let first : IsPlace taken (first_place tries) = record {
      few = omega arith;
      counted = omega arith;
      frames = λ shown. absurd (false≢true shown);
      stream = λ end. absurd (let none = end.last refl in omega (arith, some, none));
    } in
    subst (λ (q : ReaderState). IsPlace taken q) (sym is) first

-- no more than the frames of the connection have
pub place_within : (taken : ℕ) (p : ReaderState) → p.held ≤ 4096 → p.count ≤ p.held → taken ≤ most_of_frames p.count → IsPlace taken p
place_within taken p few counted within = record {
  few = few;
  counted = counted;
  frames = λ shown. within;
  stream = λ end. omega (arith, few, counted, within);
}

-- no more than a stream has, and none is open
pub place_ended : (taken : ℕ) (p : ReaderState) → p.held ≤ 4096 → p.count ≤ p.held → p.is_open ≡ false → taken ≤ 268451852 → IsPlace taken p
place_ended taken p few counted closed within = record {
  few = few;
  counted = counted;
  frames = λ shown. absurd (false≢true (sym closed ∙ shown));
  stream = λ end. within;
}

-- behind a frame
pub shown_within : (taken : ℕ) (p : ReaderState) → IsPlace taken p → p.is_open ≡ true → taken ≤ 268451852
shown_within taken p is shown =
    let few = is.few in
    let counted = is.counted in
    let within = is.frames shown in
    omega (arith, few, counted, within)

-- ---- a read whose failure was counted

pub counted_bytes : {E F : Type 0} (before after : ℕ) (r : Result ℕ E) (outcome : Result ℕ F) → IfOk r (λ n. outcome ≡ Ok n) → OnErr r (IsErr outcome) → CountsBytes before after outcome → CountsBytes before after r
counted_bytes before after (Ok n) outcome kept lost counts = record { more = rw kept at counts.more; same = tt }
counted_bytes before after (Err e) (Ok n) kept lost counts = absurd (false≢true lost)
counted_bytes before after (Err e) (Err f) kept lost counts = record { more = tt; same = counts.same }
