-- The parts of an entry, as they are read.
use Rattle.std.proofs.Common.{◌≡◌, ◌==◌, List, ℕ, Bool, true, Result, Ok, Err, length, refl, sym, ap, ◌∙◌}
use Rattle.std.specs.Prelude.{IsOk, codes}
use Rattle.std.specs.Str.{bytes_eq}
use Rattle.base_wire.specs.Pieces.{piece, number_at}
use Rattle.base_wire.specs.Refusals.{need}
use Rattle.base_wire.proofs.Needs.{need_ok, ok_is}
use Rattle.blocks.specs.Headers.{Header}
use Rattle.blocks.specs.HeaderReading.{are_in_order, header_at, header_in}
use Rattle.blocks.specs.declared.header.HeaderRefusal.TheVariants.{Length, Magic, ViewOrder}
use Rattle.certificates.specs.Certificates.{Certificate}
use Rattle.certificates.specs.CertificateReading.{certificate_at, certificate_in, count_in, entries_in, has_count, is_rising, is_whole_certificate}
use Rattle.certificates.specs.declared.certificate.CertificateRefusal.TheVariants.{Length as CertificateLength, Order, Count}

-- what passed three tests is what stands behind them
past_three : {A R : Type 0} (a b c : Bool) (p q r : R) (found x : A) → need a p (need b q (need c r (Ok found))) ≡ Ok x → found ≡ x
past_three a b c p q r found x e =
    let first = need_ok a p _ x e in
    let second = need_ok b q _ x first.1 in
    let third = need_ok c r _ x second.1 in
    ok_is found x third.1

-- a header that was read has its fields at their places
pub read_header : (bytes : List ℕ) (h : Header) → Ok h ≡ header_in bytes → h ≡ header_at bytes
unfolding header_in
read_header bytes h e =
    sym (past_three (length bytes == 84) (bytes_eq (codes "HSB1") (piece 4 bytes 0)) (are_in_order (number_at 8 bytes 12) (number_at 8 bytes 4)) Length Magic ViewOrder (header_at bytes) h (sym e))

-- so has a certificate
pub read_certificate : (bytes : List ℕ) (c : Certificate) → Ok c ≡ certificate_in bytes → c ≡ certificate_at bytes
unfolding certificate_in
read_certificate bytes c e =
    sym (past_three (is_whole_certificate bytes) (is_rising (entries_in bytes (count_in bytes))) (has_count (number_at 8 bytes 0) (count_in bytes)) CertificateLength Order Count (certificate_at bytes) c (sym e))

-- and its bytes are as many as it asks for
pub whole_certificate : (bytes : List ℕ) (c : Certificate) → certificate_in bytes ≡ Ok c → is_whole_certificate bytes ≡ true
unfolding certificate_in
whole_certificate bytes c e = (need_ok (is_whole_certificate bytes) CertificateLength _ c e).0

value_of : {A R : Type 0} (r : Result A R) → IsOk r → (x : A) × (r ≡ Ok x)
value_of (Ok x) is = (x, refl)
value_of (Err e) is = absurd cc

pub header_is : (bytes : List ℕ) → IsOk (header_in bytes) → header_in bytes ≡ Ok (header_at bytes)
header_is bytes is =
    let found = value_of (header_in bytes) is in
    found.1 ∙ ap (λ (h : Header). Ok h) (read_header bytes found.0 (sym found.1))

pub certificate_is : (bytes : List ℕ) → IsOk (certificate_in bytes) → certificate_in bytes ≡ Ok (certificate_at bytes)
certificate_is bytes is =
    let found = value_of (certificate_in bytes) is in
    found.1 ∙ ap (λ (c : Certificate). Ok c) (read_certificate bytes found.0 (sym found.1))

pub ok_from : {A R : Type 0} (r : Result A R) (x : A) → r ≡ Ok x → IsOk r
ok_from (Ok y) x e = refl
ok_from (Err y) x e = absurd cc
