-- The places of the certificates, and the tests of lengths.
use Rattle.std.proofs.Common.{◌≡◌, ℕ, ◌+◌, ◌*◌, ◌≤◌, Bool, true, false, ◌&&◌, List, length, Result, Ok, Err, Option, Some, None, refl, sym, ap, subst, ◌∙◌, arith}
use Rattle.std.specs.Prelude.{codes, nat_le}
use Rattle.std.proofs.lemmas.Bool.{and_parts, eq-eqb, eqb-true, le-leb, leb-true}
use Rattle.std.proofs.lemmas.Slice.Eq.{bytes_eq-Decides}
use Rattle.base_wire.specs.Pieces.{piece}
use Rattle.base_wire.specs.Refusals.{first_of, unless}
use Rattle.base_wire.proofs.Needs.{need_ok, need_true}
use Rattle.handover_light.specs.LightProofs.{LightProof}
use Rattle.handover_light.specs.LightProofReading.{IsMeasured, bad_header, certificate_end, certificate_of_place, count_in, first_place, has_head, headers_in, is_whole, light_proof_in, measured, number_in, of_parts, second_place, third_place}
use Rattle.handover_light.specs.declared.format.LightProofFormRefusal.{LightProofFormRefusal}
use Rattle.handover_light.specs.declared.format.LightProofFormRefusal.TheVariants.{Short, Magic, Number, Length}

-- the certificates stand one behind the other, up to the end
pub record HasRoom (bytes : List ℕ) : Type 0 where
  pub first : first_place bytes + 42 ≤ second_place bytes
  pub second : second_place bytes + 42 ≤ third_place bytes
  pub third : third_place bytes + 42 ≤ length bytes
  pub end : length bytes ≡ certificate_end bytes (third_place bytes)

pub end_after : (bytes : List ℕ) (at : ℕ) → at + 42 ≤ certificate_end bytes at
unfolding certificate_end
end_after bytes at = omega arith

pub first_is : (bytes : List ℕ) → first_place bytes ≡ 8 + 84 * count_in bytes
unfolding first_place
first_is bytes = refl

pub second_is : (bytes : List ℕ) → second_place bytes ≡ certificate_end bytes (first_place bytes)
unfolding second_place
second_is bytes = refl

pub third_is : (bytes : List ℕ) → third_place bytes ≡ certificate_end bytes (second_place bytes)
unfolding third_place
third_is bytes = refl

pub has_room : (bytes : List ℕ) → is_whole bytes ≡ true → HasRoom bytes
unfolding is_whole
has_room bytes whole =
    let a = and_parts (has_head bytes (first_place bytes)) _ whole in
    let b = and_parts (has_head bytes (second_place bytes)) _ a.1 in
    let c = and_parts (has_head bytes (third_place bytes)) _ b.1 in
    record {
      first = subst (λ (n : ℕ). first_place bytes + 42 ≤ n) (sym (second_is bytes)) (end_after bytes (first_place bytes));
      second = subst (λ (n : ℕ). second_place bytes + 42 ≤ n) (sym (third_is bytes)) (end_after bytes (second_place bytes));
      third = leb-true _ _ c.0;
      end = eqb-true _ _ c.1;
    }

and_true : (a b : Bool) → a ≡ true → b ≡ true → (a && b) ≡ true
and_true true b e f = f
and_true false b e f = absurd cc

pub whole_from : (bytes : List ℕ) → HasRoom bytes → is_whole bytes ≡ true
unfolding is_whole
whole_from bytes room =
    let first = room.first in
    let second = room.second in
    let third = room.third in
    and_true (has_head bytes (first_place bytes)) _ (le-leb _ _ (omega arith))
    (and_true (has_head bytes (second_place bytes)) _ (le-leb _ _ (omega arith))
    (and_true (has_head bytes (third_place bytes)) _ (le-leb _ _ third) (eq-eqb _ _ room.end)))

-- ---- the tests of lengths

number_from : (n : ℕ) → (nat_le 2 n && nat_le n 4096) ≡ true → (2 ≤ n) × (n ≤ 4096)
number_from n e = let both = and_parts (nat_le 2 n) (nat_le n 4096) e in (leb-true 2 n both.0, leb-true n 4096 both.1)

number_true : (n : ℕ) → 2 ≤ n → n ≤ 4096 → (nat_le 2 n && nat_le n 4096) ≡ true
number_true n least most = and_true (nat_le 2 n) (nat_le n 4096) (le-leb 2 n least) (le-leb n 4096 most)

pub past_measured : {A : Type 0} (bytes : List ℕ) (next : Result A LightProofFormRefusal) → IsMeasured bytes → measured bytes next ≡ next
unfolding measured
past_measured bytes next m =
    need_true _ Short _ _ (le-leb 8 (length bytes) m.long) (
    need_true _ Magic _ _ ((bytes_eq-Decides (codes "HSH1") (piece 4 bytes 0)).1 (sym m.magic)) (
    need_true _ Number _ _ (number_true (number_in bytes) m.least m.most) (
    need_true _ Length _ _ m.whole refl)))

pub was_measured : {A : Type 0} (bytes : List ℕ) (next : Result A LightProofFormRefusal) (x : A) → measured bytes next ≡ Ok x → IsMeasured bytes × (next ≡ Ok x)
unfolding measured
was_measured bytes next x e =
    let a = need_ok _ _ _ x e in
    let b = need_ok _ _ _ x a.1 in
    let c = need_ok _ _ _ x b.1 in
    let d = need_ok _ _ _ x c.1 in
    let number = number_from (number_in bytes) c.0 in (
      record {
        long = leb-true 8 (length bytes) a.0;
        magic = sym ((bytes_eq-Decides (codes "HSH1") (piece 4 bytes 0)).0 b.0);
        least = number.0;
        most = number.1;
        whole = d.0;
      },
      d.1,
    )

-- ---- the light proof behind them

abbrev pub parts_of : List ℕ → Result LightProof LightProofFormRefusal
parts_of bytes =
    of_parts (headers_in bytes (count_in bytes))
    (certificate_of_place bytes 0 (first_place bytes) (second_place bytes))
    (certificate_of_place bytes 1 (second_place bytes) (third_place bytes))
    (certificate_of_place bytes 2 (third_place bytes) (length bytes))

pub past_lengths : (bytes : List ℕ) → IsMeasured bytes → light_proof_in bytes ≡ unless (first_of (bad_header bytes) (count_in bytes)) (parts_of bytes)
unfolding light_proof_in
past_lengths bytes m = past_measured bytes _ m

pub past_headers : (bytes : List ℕ) → IsMeasured bytes → first_of (bad_header bytes) (count_in bytes) ≡ None → light_proof_in bytes ≡ parts_of bytes
past_headers bytes m none = past_lengths bytes m ∙ ap (λ (o : Option LightProofFormRefusal). unless o (parts_of bytes)) none

pub bad_header_refuses : (bytes : List ℕ) (r : LightProofFormRefusal) → IsMeasured bytes → first_of (bad_header bytes) (count_in bytes) ≡ Some r → light_proof_in bytes ≡ Err r
bad_header_refuses bytes r m some = past_lengths bytes m ∙ ap (λ (o : Option LightProofFormRefusal). unless o (parts_of bytes)) some
