-- The headers of a light proof at their places.
use Rattle.std.proofs.Common.{◌≡◌, ℕ, zero, suc, ◌+◌, ◌*◌, ◌<◌, ◌≤◌, Bool, true, false, List, [], ◌∷◌, ◌++◌, length, take, drop, get_or, Result, Ok, Err, Option, Some, None, refl, sym, ap, subst, ◌∙◌, arith, add-one, append_assoc}
use Rattle.std.specs.Prelude.{codes, ◌==◌}
use Rattle.std.specs.List.{All, flat_map}
use Rattle.std.specs.Str.{bytes_eq}
use Rattle.std.proofs.lemmas.List.{append-nil, length-append}
use Rattle.std.proofs.lemmas.List.Concat.{flat_map-append, flat_map-cons}
use Rattle.std.proofs.lemmas.List.Elements.{All-head, All-tail, All-nil, All-push}
use Rattle.std.proofs.Math.Seq.{take-suc}
use Rattle.base_wire.specs.Pieces.{AreBytes, number_at, piece}
use Rattle.base_wire.specs.Refusals.{first_of, need, or_else}
use Rattle.base_wire.proofs.Firsts.{first_more, first_none}
use Rattle.base_wire.proofs.Numbers.{AreBytes-piece, behind, front}
use Rattle.certificates.proofs.Pieces.{two_pieces}
use Rattle.blocks.specs.Headers.{Header, IsHeader, header_text}
use Rattle.blocks.specs.HeaderReading.{are_in_order, header_at, header_in}
use Rattle.blocks.specs.declared.header.HeaderRefusal.TheVariants.{Length, Magic, ViewOrder}
use Rattle.blocks.proofs.HeaderLaws.{header_again, header_found, length-header_text}
use Rattle.handover_light.specs.LightProofReading.{bad_header, header_piece, headers_in, refused_as}
use Rattle.handover_light.specs.declared.format.LightProofFormRefusal.TheVariants.{Header as BadHeader}

-- ---- one header

-- three tests that were passed
passed_three : {A R : Type 0} (a b c : Bool) (r s t : R) (x y : A) → need a r (need b s (need c t (Ok x))) ≡ Ok y → x ≡ y
passed_three true true true r s t x y e = cc
passed_three true true false r s t x y e = absurd cc
passed_three true false c r s t x y e = absurd cc
passed_three false b c r s t x y e = absurd cc

-- what is read is what stands at the places
pub header_is : (bytes : List ℕ) (h : Header) → header_in bytes ≡ Ok h → header_at bytes ≡ h
unfolding header_in
header_is bytes h e =
    passed_three (length bytes == 84) (bytes_eq (codes "HSB1") (piece 4 bytes 0)) (are_in_order (number_at 8 bytes 12) (number_at 8 bytes 4))
    Length Magic ViewOrder (header_at bytes) h e

pub read_header : (bytes slice : List ℕ) (k : ℕ) (h : Header) → slice ≡ header_piece bytes k → header_in slice ≡ Ok h → h ≡ header_at (header_piece bytes k)
read_header bytes slice k h same e = sym (header_is (header_piece bytes k) h (ap header_in (sym same) ∙ e))

not_refused : {A E R : Type 0} (r : R) (s : Result A E) → refused_as r s ≡ None → (x : A) × (s ≡ Ok x)
not_refused r (Ok x) e = (x, refl)
not_refused r (Err y) e = absurd cc

pub none_bad : (bytes : List ℕ) (k : ℕ) (h : Header) → header_in (header_piece bytes k) ≡ Ok h → bad_header bytes k ≡ None
unfolding bad_header
none_bad bytes k h e = ap (refused_as (BadHeader k)) e

-- a header that is not refused is one, with its bytes
pub record IsThere (bytes : List ℕ) (k : ℕ) : Type 0 where
  pub is : IsHeader (header_at (header_piece bytes k))
  pub text : header_piece bytes k ≡ header_text (header_at (header_piece bytes k))

pub is_there : (bytes : List ℕ) (k : ℕ) → AreBytes bytes → bad_header bytes k ≡ None → IsThere bytes k
unfolding bad_header
is_there bytes k fit none =
    let read = not_refused (BadHeader k) (header_in (header_piece bytes k)) none in
    let same = header_is (header_piece bytes k) read.0 read.1 in
    let found = header_found (header_piece bytes k) read.0 (AreBytes-piece 84 bytes (8 + 84 * k) fit) read.1 in
    record {
      is = subst IsHeader (sym same) found.0;
      text = found.1 ∙ ap header_text (sym same);
    }

-- ---- all headers

-- none so far, and one more
pub headers_none : (bytes : List ℕ) → headers_in bytes 0 ≡ []
unfolding headers_in
headers_none bytes = refl

pub headers_more : (bytes : List ℕ) (n : ℕ) → headers_in bytes (n + 1) ≡ headers_in bytes n ++ header_at (header_piece bytes n) ∷ []
unfolding headers_in
headers_more bytes n = rw add-one refl

pub length-headers_in : (bytes : List ℕ) (n : ℕ) → length (headers_in bytes n) ≡ n
unfolding headers_in
length-headers_in bytes zero = refl
length-headers_in bytes (suc n) = length-append (headers_in bytes n) (header_at (header_piece bytes n) ∷ []) ∙ omega (arith, length-headers_in bytes n)

-- none of the first n is refused
or_none : {R : Type 0} (a b : Option R) → or_else a b ≡ None → (a ≡ None) × (b ≡ None)
or_none None b e = (refl, e)
or_none (Some r) b e = absurd cc

pub first_of_last : {R : Type 0} (f : ℕ → Option R) (n : ℕ) → first_of f (suc n) ≡ None → (first_of f n ≡ None) × (f n ≡ None)
unfolding first_of
first_of_last f n e = or_none (first_of f n) (f n) e

-- what is read is spelled so
pub record AreSpelled (bytes : List ℕ) (n : ℕ) : Type 0 where
  pub text : flat_map header_text (headers_in bytes n) ≡ piece (84 * n) bytes 8
  pub each : All IsHeader (headers_in bytes n)

pub are_spelled : (bytes : List ℕ) (n : ℕ) → AreBytes bytes → first_of (bad_header bytes) n ≡ None → AreSpelled bytes n
unfolding headers_in
are_spelled bytes zero fit none = record { text = refl; each = All-nil IsHeader }
are_spelled bytes (suc n) fit none =
    let parts = first_of_last (bad_header bytes) n none in
    let before = are_spelled bytes n fit parts.0 in
    let here = is_there bytes n fit parts.1 in
    let h = header_at (header_piece bytes n) in
    let more : 84 * n + 84 ≡ 84 * suc n = omega arith in
    record {
      text =
          flat_map-append header_text (headers_in bytes n) (h ∷ [])
          ∙ ap (λ (t : List ℕ). flat_map header_text (headers_in bytes n) ++ t) (append-nil (header_text h) ∙ sym here.text)
          ∙ ap (λ (t : List ℕ). t ++ header_piece bytes n) before.text
          ∙ two_pieces bytes 8 (84 * n) 84
          ∙ ap (λ (m : ℕ). piece m bytes 8) more;
      each = All-push IsHeader (headers_in bytes n) h before.each here.is;
    }

-- ---- what is spelled so is read

pub length-texts : (hs : List Header) → All IsHeader hs → length (flat_map header_text hs) ≡ 84 * length hs
length-texts [] all = refl
length-texts (h ∷ hs) all =
    let one = length-header_text h (All-head IsHeader h hs all) in
    let rest = length-texts hs (All-tail IsHeader h hs all) in
    ap length (flat_map-cons header_text h hs) ∙ length-append (header_text h) (flat_map header_text hs) ∙ omega arith

first_there : (text rest : List ℕ) (h : Header) (hs : List Header) (at : ℕ) → drop at text ≡ flat_map header_text (h ∷ hs) ++ rest
    → drop at text ≡ header_text h ++ (flat_map header_text hs ++ rest)
first_there text rest h hs at here =
    here ∙ ap (λ (t : List ℕ). t ++ rest) (flat_map-cons header_text h hs) ∙ append_assoc (header_text h) (flat_map header_text hs) rest

-- header k stands at its place
stands_there : (text rest : List ℕ) (hs : List Header) (at k : ℕ) (d : Header) → All IsHeader hs → k < length hs → drop at text ≡ flat_map header_text hs ++ rest
    → piece 84 text (at + 84 * k) ≡ header_text (get_or hs k d)
stands_there text rest [] at k d all below here = absurd (omega arith)
stands_there text rest (h ∷ hs) at zero d all below here =
    let one = length-header_text h (All-head IsHeader h hs all) in
    let place : at + 84 * 0 ≡ at = omega arith in
    ap (λ (n : ℕ). piece 84 text n) place ∙ front text at 84 (header_text h) (flat_map header_text hs ++ rest) (first_there text rest h hs at here) one
stands_there text rest (h ∷ hs) at (suc k) d all below here =
    let one = length-header_text h (All-head IsHeader h hs all) in
    let place : at + 84 * suc k ≡ at + 84 + 84 * k = omega arith in
    ap (λ (n : ℕ). piece 84 text n) place
    ∙ stands_there text rest hs (at + 84) k d (All-tail IsHeader h hs all) (omega arith)
    (behind text at 84 (header_text h) (flat_map header_text hs ++ rest) (first_there text rest h hs at here) one)

-- a text that has these headers from 8 on
pub record HasHeaders (text : List ℕ) (hs : List Header) : Type 0 where
  pub rest : List ℕ
  pub here : drop 8 text ≡ flat_map header_text hs ++ rest
  pub each : All IsHeader hs

read_there : (text : List ℕ) (hs : List Header) (k : ℕ) (d : Header) → HasHeaders text hs → k < length hs → header_in (header_piece text k) ≡ Ok (get_or hs k d)
read_there text hs k d has below = ap header_in (stands_there text has.rest hs 8 k d has.each below has.here) ∙ header_again (get_or hs k d) (has.each k d below)

pub headers_again : (text : List ℕ) (hs : List Header) (n : ℕ) (d : Header) → HasHeaders text hs → n ≤ length hs → headers_in text n ≡ take n hs
unfolding headers_in
headers_again text hs zero d has small = refl
headers_again text hs (suc n) d has small =
    let below : n < length hs = omega arith in
    let one = header_is (header_piece text n) (get_or hs n d) (read_there text hs n d has below) in
    let before = headers_again text hs n d has (omega arith) in
    ap (λ (xs : List Header). xs ++ header_at (header_piece text n) ∷ []) before ∙ ap (λ (x : Header). take n hs ++ x ∷ []) one ∙ sym (take-suc hs n d below)

pub none_refused : (text : List ℕ) (hs : List Header) (n : ℕ) (d : Header) → HasHeaders text hs → n ≤ length hs → first_of (bad_header text) n ≡ None
none_refused text hs zero d has small = first_none (bad_header text)
none_refused text hs (suc n) d has small =
    subst (λ (m : ℕ). first_of (bad_header text) m ≡ None) (add-one n)
    (first_more (bad_header text) n (none_refused text hs n d has (omega arith)) (none_bad text n (get_or hs n d) (read_there text hs n d has (omega arith))))
