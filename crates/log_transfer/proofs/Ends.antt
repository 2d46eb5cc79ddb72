-- How a connection ends behind what was read of it.
use Rattle.std.proofs.Common.{◌≡◌, ◌≢◌, inl, inr, ℕ, ◌^◌, ◌<◌, ◌≤◌, List, [], ◌++◌, Bool, length, take, refl, sym, ap, subst, ◌∙◌, arith}
use Rattle.std.proofs.lemmas.List.{length-append, take_all}
use Rattle.byteorder.specs.Endian.{big_bytes}
use Rattle.base_wire.specs.Pieces.{number_at, AreBytes}
use Rattle.base_wire.proofs.Numbers.{piece-number_at, number_again}
use Rattle.base_wire.specs.Payloads.{IsPayload}
use Rattle.log_format.specs.Exports.{frame_text}
use Rattle.log_format.specs.Readings.{HasLength, unfinished}
use Rattle.log_format.specs.declared.status.Status.{Status}
use Rattle.log_format.specs.declared.status.Status.TheVariants.{Whole, Broken, TooLong}
use Rattle.log_format.proofs.Endings.{ends_open}
use Rattle.log_transfer.specs.Connections.{Connection, behind}
use Rattle.log_transfer.specs.Streams.{EndsBehind, GaveAll, length_text, IsCame, IsCameBehind}
use Rattle.log_transfer.specs.declared.stream.Came.{Came}
use Rattle.log_transfer.specs.declared.stream.Came.TheVariants.{Frame, End}
use Rattle.log_transfer.proofs.Fills.{gave_more}

-- ---- lengths

pub length_first : (n : ℕ) (rest : List ℕ) → n < 2 ^ 32 → number_at 4 (length_text n ++ rest) 0 ≡ n
unfolding length_text
length_first n rest small = number_again 4 (big_bytes 4 n ++ rest) 0 n small refl

pub length_size : (n : ℕ) → length (length_text n) ≡ 4
unfolding length_text
length_size n = refl

pub length_read : (bytes : List ℕ) (n : ℕ) → AreBytes bytes → length bytes ≡ 4 → number_at 4 bytes 0 ≡ n → bytes ≡ length_text n
unfolding length_text
length_read bytes n fit size is =
    sym (take_all 4 bytes (omega arith)) ∙ piece-number_at 4 bytes 0 fit (omega arith) ∙ ap (λ (m : ℕ). big_bytes 4 m) is

pub frame_is : (payload : List ℕ) (n : ℕ) → length payload ≡ n → frame_text payload ≡ length_text n ++ payload
unfolding frame_text length_text
frame_is payload n is = ap (λ (m : ℕ). big_bytes 4 m ++ payload) is

has_length : (n : ℕ) (rest : List ℕ) → 0 < n → n ≤ 65536 → HasLength (length_text n ++ rest)
has_length n rest some small =
    let number = length_first n rest (omega arith) in
    record { came = omega (arith, length-append (length_text n) rest, length_size n); some = omega arith; fits = omega arith }

-- ---- ends

pub ends_short : (old : Connection → Type 0) (text : List ℕ) (failed : Bool) (count room : ℕ) → length text < 4 → old (record { text = text; fails = failed }) → EndsBehind old [] count room (unfinished failed)
ends_short old text failed count room short may =
    record { c = record { text = text; fails = failed }; may = may; ends = ends_open failed count room text (inl short) }

pub ends_great : (old : Connection → Type 0) (c : Connection) (n count room : ℕ) → old c → 65536 < n → n < 2 ^ 32 → EndsBehind old (length_text n) count room Broken
ends_great old c n count room may great small =
    record { c = c; may = may; ends = inl (record { came = omega (arith, length-append (length_text n) c.text, length_size n); great = omega (arith, length_first n c.text small) }) }

pub ends_full : (old : Connection → Type 0) (c : Connection) (n count room : ℕ) → old c → 0 < n → n ≤ 65536 → room ≡ 0 → EndsBehind old (length_text n) count room TooLong
ends_full old c n count room may some small full = record { c = c; may = may; ends = (full, has_length n c.text some small) }

pub ends_frame : (old : Connection → Type 0) (text : List ℕ) (failed : Bool) (n count room : ℕ) → 0 < n → n ≤ 65536 → 0 < room → length text < n
    → old (record { text = text; fails = failed }) → EndsBehind old (length_text n) count room (unfinished failed)
ends_frame old text failed n count room some small free short may =
    let whole = length_text n ++ text in
    let number = length_first n text (omega arith) in
    record {
      c = record { text = text; fails = failed };
      may = may;
      ends = ends_open failed count room whole (inr (inr (
        free,
        record {
          size = has_length n text some small;
          part = omega (arith, length-append (length_text n) text, length_size n);
        },
      )));
    }

pub ends_mark_part : (old : Connection → Type 0) (text : List ℕ) (failed : Bool) (count room : ℕ) → length text < 4
    → old (record { text = text; fails = failed }) → EndsBehind old (length_text 0) count room (unfinished failed)
ends_mark_part old text failed count room short may =
    let whole = length_text 0 ++ text in
    record {
      c = record { text = text; fails = failed };
      may = may;
      ends = ends_open failed count room whole (inr (inl (record {
        none = length_first 0 text (omega arith);
        part = omega (arith, length-append (length_text 0) text, length_size 0);
      })));
    }

module _ (old new : Connection → Type 0) (bytes : List ℕ) (n : ℕ) (bytes_are : bytes ≡ length_text n) (small : n < 2 ^ 32) (gave : GaveAll old new bytes) (c : Connection) (may : new c) (count room : ℕ) where
  text : List ℕ
  text = length_text 0 ++ (bytes ++ c.text)

  long : 8 ≤ length text
  unfolding text
  long = omega (arith, length-append (length_text 0) (bytes ++ c.text), length-append bytes c.text, length_size 0, length_size n, ap length bytes_are)

  none : number_at 4 text 0 ≡ 0
  unfolding text
  none = length_first 0 (bytes ++ c.text) (omega arith)

  named : number_at 4 text 4 ≡ n
  unfolding text length_text
  named = number_again 4 text 4 n small (ap (λ (b : List ℕ). take 4 (b ++ c.text)) bytes_are)

  pub ends_whole : n ≡ count → EndsBehind old (length_text 0) count room Whole
  unfolding text
  ends_whole is = record { c = behind bytes c; may = gave c may; ends = record { came = long; none = none; named = named ∙ is } }

  pub ends_other : n ≢ count → EndsBehind old (length_text 0) count room Broken
  unfolding text
  ends_other other = record { c = behind bytes c; may = gave c may; ends = inr (record { came = long; none = none; other = λ e. other (sym named ∙ e) }) }

-- ---- behind a length that was read

pub ends_of : (old mid : Connection → Type 0) (front : List ℕ) (count room : ℕ) (status : Status) → GaveAll old mid front → EndsBehind mid front count room status → EndsBehind old [] count room status
ends_of old mid front count room status gave e = record { c = behind front e.c; may = gave e.c e.may; ends = e.ends }

pub frame_of : (old mid new : Connection → Type 0) (payload : List ℕ) (n : ℕ) → length payload ≡ n → GaveAll old mid (length_text n) → GaveAll mid new payload → GaveAll old new (frame_text payload)
frame_of old mid new payload n is a b = gave_more old mid new (length_text n) payload (frame_text payload) (frame_is payload n is) a b

pub came_of : (old mid new : Connection → Type 0) (n count room : ℕ) (buffer : List ℕ) (came : Came) → GaveAll old mid (length_text n) → IsCameBehind mid new n count room buffer came → IsCame old new count room buffer came
came_of old mid new n count room buffer (Frame m) gave is =
    let same : take m buffer ≡ take n buffer = ap (λ (k : ℕ). take k buffer) is.0 in
    (is.1, subst IsPayload (sym same) is.2, subst (λ (t : List ℕ). GaveAll old new (frame_text t)) (sym same) (frame_of old mid new (take n buffer) n is.3 gave is.4))
came_of old mid new n count room buffer (End status) gave is = ends_of old mid (length_text n) count room status gave is
