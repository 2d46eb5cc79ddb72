-- What is read is spelled so, and what is spelled so is read.
use Rattle.std.proofs.Common.{◌≡◌, ◌≢◌, ◌+◌, ◌-◌, ◌≤◌, ℕ, List, ◌++◌, length, take, drop, Result, Ok, Err, refl, sym, ap, subst, ◌∙◌, arith}
use Rattle.std.specs.Prelude.{codes, IsErrAnd, IsOk}
use Rattle.std.proofs.lemmas.Bool.{eq-eqb, eqb-true, le-leb, leb-true}
use Rattle.std.proofs.lemmas.Slice.Eq.{bytes_eq-Decides}
use Rattle.std.proofs.lemmas.List.{get_or-drop, length-append, length-drop, take_all}
use Rattle.std.specs.List.{flat_map}
use Rattle.byteorder.specs.Endian.{big_bytes}
use Rattle.base_wire.specs.Pieces.{AreBytes, number_at, piece}
use Rattle.base_wire.proofs.Needs.{need_ok, need_true}
use Rattle.base_wire.proofs.Numbers.{behind, front, length-piece, number_again, taken}
use Rattle.certificates.specs.Certificates.{Certificate, IsCertificate, certificate_text, endorsement_text}
use Rattle.certificates.specs.CertificateReading.{certificate_in}
use Rattle.certificates.proofs.CertificateLaws.{certificate_again, certificate_found}
use Rattle.certificates.specs.declared.certificate.CertificateRefusal.{CertificateRefusal}
use Rattle.certificates.specs.declared.certificate.CertificateRefusal.TheVariants as of
use Rattle.handover_renewals.specs.Renewals.{Renewal, IsRenewal, renewal_text}
use Rattle.handover_renewals.specs.RenewalReading.{of_form, renewal_in, with_chain}
use Rattle.handover_renewals.specs.declared.format.RenewalFormRefusal.{RenewalFormRefusal}
use Rattle.handover_renewals.specs.declared.format.RenewalFormRefusal.TheVariants.{Memory, Short, Magic, View}

-- the view that is read in a certificate's bytes is its
pub view_is : (c : Certificate) → IsCertificate c → number_at 8 (certificate_text c) 0 ≡ c.view
unfolding certificate_text
view_is c is = number_again 8 (certificate_text c) 0 c.view is.view refl

-- .. which stands behind the head of a renewal
pub view_there : (bytes : List ℕ) (c : Certificate) → IsCertificate c → drop 36 bytes ≡ certificate_text c → number_at 8 bytes 36 ≡ c.view
unfolding number_at
view_there bytes c is here = ap (λ (t : List ℕ). number_at 8 t 0) here ∙ view_is c is

certificate_long : (c : Certificate) → IsCertificate c → 42 ≤ length (certificate_text c)
unfolding certificate_text
certificate_long c is =
    omega (arith, length-append c.id (big_bytes 2 (length c.entries) ++ flat_map endorsement_text c.entries), is.id)

bytes_behind : (n : ℕ) (bytes : List ℕ) → AreBytes bytes → AreBytes (drop n bytes)
bytes_behind n bytes fit i = rw (get_or-drop n bytes i 0) (fit (n + i))

-- ---- the tests before the certificate's

pub past_tests : (bytes : List ℕ) → 78 ≤ length bytes → piece 4 bytes 0 ≡ codes "HSR1" → number_at 8 bytes 36 ≡ 1
    → renewal_in bytes ≡ with_chain (piece 32 bytes 4) (certificate_in (drop 36 bytes))
unfolding renewal_in
past_tests bytes long magic view =
    need_true _ Short _ _ (le-leb 78 (length bytes) long) (
    need_true _ Magic _ _ ((bytes_eq-Decides (codes "HSR1") (piece 4 bytes 0)).1 (sym magic)) (
    need_true _ View _ _ (eq-eqb _ _ view) refl))

-- the bytes behind the head, as a slice has them
abbrev pub rest_of : List ℕ → List ℕ
rest_of bytes = take (length bytes - 36) (drop 36 bytes)

pub rest_is : (bytes : List ℕ) → rest_of bytes ≡ drop 36 bytes
rest_is bytes = take_all (length bytes - 36) (drop 36 bytes) (omega (arith, length-drop 36 bytes))

pub past_rest : (bytes : List ℕ) → 78 ≤ length bytes → piece 4 bytes 0 ≡ codes "HSR1" → number_at 8 bytes 36 ≡ 1
    → renewal_in bytes ≡ with_chain (piece 32 bytes 4) (certificate_in (rest_of bytes))
past_rest bytes long magic view = past_tests bytes long magic view ∙ ap (λ (t : List ℕ). with_chain (piece 32 bytes 4) (certificate_in t)) (sym (rest_is bytes))

abbrev given : Certificate → Result Certificate CertificateRefusal
given c = Ok c

abbrev refused : CertificateRefusal → Result Certificate CertificateRefusal
refused e = Err e

abbrev pub made : Certificate → List ℕ → Result Renewal RenewalFormRefusal
made c chain = Ok (record { chain = chain; certificate = c })

-- the certificate was read
pub read_ok : (bytes : List ℕ) (c : Certificate) (s : Result Certificate CertificateRefusal)
    → renewal_in bytes ≡ with_chain (piece 32 bytes 4) s → (given c ≢ refused of.Memory → given c ≡ s)
    → made c (piece 32 bytes 4) ≡ renewal_in bytes
read_ok bytes c s tests is = ap (with_chain (piece 32 bytes 4)) (is (λ h. cc)) ∙ sym tests

-- .. or refused, by something else than want of memory
pub read_err : (bytes : List ℕ) (e : CertificateRefusal) (s : Result Certificate CertificateRefusal) (r : Result Renewal RenewalFormRefusal)
    → renewal_in bytes ≡ with_chain (piece 32 bytes 4) s → (refused e ≢ refused of.Memory → refused e ≡ s) → r ≡ Err (of_form e) → r ≢ Err Memory → r ≡ renewal_in bytes
read_err bytes of.Memory s r tests is made other = absurd (other made)
read_err bytes of.Length s r tests is made other = made ∙ ap (with_chain (piece 32 bytes 4)) (is (λ h. cc)) ∙ sym tests
read_err bytes of.Order s r tests is made other = made ∙ ap (with_chain (piece 32 bytes 4)) (is (λ h. cc)) ∙ sym tests
read_err bytes of.Count s r tests is made other = made ∙ ap (with_chain (piece 32 bytes 4)) (is (λ h. cc)) ∙ sym tests

-- .. or by that
ok_with : (chain : List ℕ) (s : Result Certificate CertificateRefusal) → IsOk s → IsOk (with_chain chain s)
ok_with chain (Ok c) is = refl
ok_with chain (Err e) is = absurd cc

pub read_no_memory : (bytes : List ℕ) (e : CertificateRefusal) (s : Result Certificate CertificateRefusal) (r : Result Renewal RenewalFormRefusal)
    → renewal_in bytes ≡ with_chain (piece 32 bytes 4) s → (refused e ≡ refused of.Memory → IsOk s) → r ≡ Err (of_form e) → r ≡ Err Memory → IsOk (renewal_in bytes)
read_no_memory bytes of.Memory s r tests is made memory = subst IsOk (sym tests) (ok_with (piece 32 bytes 4) s (is refl))
read_no_memory bytes of.Length s r tests is made memory = absurd (cc (made, memory))
read_no_memory bytes of.Order s r tests is made memory = absurd (cc (made, memory))
read_no_memory bytes of.Count s r tests is made memory = absurd (cc (made, memory))

pub err_is : {A E : Type 0} (r : Result A E) (e : E) → IsErrAnd r (λ x. x ≡ e) → r ≡ Err e
err_is (Err x) e is = ap (λ y. Err y) is
err_is (Ok a) e is = absurd is

-- ---- what is read is spelled so

with_chain_ok : (chain : List ℕ) (s : Result Certificate CertificateRefusal) (r : Renewal) → with_chain chain s ≡ Ok r → (r.chain ≡ chain) × (s ≡ Ok r.certificate)
with_chain_ok chain (Ok c) r e = (cc, cc)
with_chain_ok chain (Err x) r e = absurd cc

pub renewal_found : (bytes : List ℕ) (r : Renewal) → AreBytes bytes → renewal_in bytes ≡ Ok r → IsRenewal r × (bytes ≡ renewal_text r)
unfolding renewal_in renewal_text
renewal_found bytes r fit e =
    let a = need_ok _ _ _ r e in
    let b = need_ok _ _ _ r a.1 in
    let d = need_ok _ _ _ r b.1 in
    let read = with_chain_ok (piece 32 bytes 4) (certificate_in (drop 36 bytes)) r d.1 in
    let long : 78 ≤ length bytes = leb-true 78 (length bytes) a.0 in
    let magic : piece 4 bytes 0 ≡ codes "HSR1" = sym ((bytes_eq-Decides (codes "HSR1") (piece 4 bytes 0)).0 b.0) in
    let view : number_at 8 bytes 36 ≡ 1 = eqb-true _ _ d.0 in
    let certificate = certificate_found (drop 36 bytes) r.certificate (bytes_behind 36 bytes fit) read.1 in (
      record {
        chain = ap (λ (t : List ℕ). length t) read.0 ∙ length-piece 32 bytes 4 (omega arith);
        view = sym (view_there bytes r.certificate certificate.0 certificate.1) ∙ view;
        certificate = certificate.0;
      },
      taken bytes 0 4 _ _ magic (taken bytes 4 32 _ _ (sym read.0) certificate.1),
    )

-- ---- what is spelled so is read

pub renewal_again : (r : Renewal) → IsRenewal r → renewal_in (renewal_text r) ≡ Ok r
unfolding renewal_text
renewal_again r is =
    let text = renewal_text r in
    let certificate = certificate_text r.certificate in
    let whole : drop 0 text ≡ codes "HSR1" ++ (r.chain ++ certificate) = refl in
    let second = behind text 0 4 (codes "HSR1") (r.chain ++ certificate) whole refl in
    let third : drop 36 text ≡ certificate = behind text 4 32 r.chain certificate second is.chain in
    let chain : piece 32 text 4 ≡ r.chain = front text 4 32 r.chain certificate second is.chain in
    let view : number_at 8 text 36 ≡ 1 = view_there text r.certificate is.certificate third ∙ is.view in
    let read : certificate_in (drop 36 text) ≡ Ok r.certificate = ap certificate_in third ∙ certificate_again r.certificate is.certificate in
    let long : 78 ≤ length text = omega (arith, length-append r.chain certificate, is.chain, certificate_long r.certificate is.certificate) in
    past_tests text long refl view ∙ (λ i. with_chain (chain i) (read i))
