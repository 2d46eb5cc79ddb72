-- What is read is spelled so, and what is spelled so is read.
use Rattle.std.proofs.Common.{◌≡◌, ℕ, ◌+◌, ◌-◌, ◌*◌, ◌≤◌, List, [], ◌++◌, length, take, drop, Result, Ok, Err, None, refl, sym, ap, subst, ◌∙◌, arith}
use Rattle.std.specs.Prelude.{codes}
use Rattle.std.specs.List.{All, flat_map}
use Rattle.std.proofs.lemmas.Bool.{and_parts, eqb-true}
use Rattle.std.proofs.lemmas.List.{append-nil, drop-append-le, drop-drop, length-drop, take-append-le, take_all}
use Rattle.byteorder.specs.Endian.{big_bytes, big_number}
use Rattle.base_wire.specs.Pieces.{AreBytes, number_at, piece}
use Rattle.base_wire.specs.Refusals.{first_of}
use Rattle.base_wire.proofs.Needs.{need_ok, unless_ok}
use Rattle.base_wire.proofs.Numbers.{AreBytes-piece, behind, front, number_again, piece-number_at, taken}
use Rattle.blocks.specs.Headers.{Header, IsHeader, header_text}
use Rattle.certificates.specs.Certificates.{Certificate, IsCertificate, certificate_text}
use Rattle.certificates.specs.CertificateReading.{certificate_in, count_in as entries_count}
use Rattle.certificates.specs.declared.certificate.CertificateRefusal.{CertificateRefusal}
use Rattle.certificates.proofs.CertificateLaws.{certificate_again, certificate_found}
use Rattle.handover_light.specs.LightProofs.{LightProof, IsLightProof, light_proof_text}
use Rattle.handover_light.specs.LightProofReading.{IsMeasured, bad_header, between, certificate_as, certificate_end, certificate_of_place, count_in, first_place, headers_in, light_proof_in, number_in, of_parts, second_place, third_place}
use Rattle.handover_light.specs.Proving.{no_header}
use Rattle.handover_light.specs.declared.format.LightProofFormRefusal.{LightProofFormRefusal}
use Rattle.handover_light.proofs.Headers.{HasHeaders, are_spelled, headers_again, length-headers_in, length-texts, none_refused}
use Rattle.handover_light.proofs.Wholes.{HasRoom, first_is, has_room, past_headers, second_is, third_is, was_measured, whole_from}

-- ---- the parts of a light proof that was read

abbrev read : Certificate → Result Certificate LightProofFormRefusal
read c = Ok c

record WasRead (hs : List Header) (a b c : Result Certificate LightProofFormRefusal) (p : LightProof) : Type 0 where
  headers : hs ≡ p.headers
  committed : a ≡ read p.committed
  second : b ≡ read p.second
  third : c ≡ read p.third

was_read : (hs : List Header) (a b c : Result Certificate LightProofFormRefusal) (p : LightProof) → of_parts hs a b c ≡ Ok p → WasRead hs a b c p
was_read hs (Ok a) (Ok b) (Ok c) p e = record { headers = cc; committed = cc; second = cc; third = cc }
was_read hs (Ok a) (Ok b) (Err r) p e = absurd cc
was_read hs (Ok a) (Err r) c p e = absurd cc
was_read hs (Err r) b c p e = absurd cc

as_ok : (c : ℕ) (s : Result Certificate CertificateRefusal) (x : Certificate) → certificate_as c s ≡ Ok x → s ≡ Ok x
as_ok c (Ok y) x e = cc
as_ok c (Err r) x e = absurd cc

pub found_at : (bytes : List ℕ) (c from to : ℕ) (x : Certificate) → AreBytes bytes → certificate_of_place bytes c from to ≡ Ok x
    → IsCertificate x × (between bytes from to ≡ certificate_text x)
found_at bytes c from to x fit e = certificate_found (between bytes from to) x (AreBytes-piece (to - from) bytes from fit) (as_ok c (certificate_in (between bytes from to)) x e)

-- ---- what is read is spelled so

taken_to : (bytes : List ℕ) (from to : ℕ) (first rest : List ℕ) → from ≤ to → between bytes from to ≡ first → drop to bytes ≡ rest → drop from bytes ≡ first ++ rest
taken_to bytes from to first rest low here behind_it =
    let end : from + (to - from) ≡ to = omega arith in
    taken bytes from (to - from) first rest here (ap (λ (n : ℕ). drop n bytes) end ∙ behind_it)

last_taken : (bytes : List ℕ) (from : ℕ) (last : List ℕ) → between bytes from (length bytes) ≡ last → drop from bytes ≡ last
last_taken bytes from last here = sym (take_all (length bytes - from) (drop from bytes) (omega (arith, length-drop from bytes))) ∙ here

pub light_proof_found : (bytes : List ℕ) (p : LightProof) → AreBytes bytes → light_proof_in bytes ≡ Ok p → IsLightProof p × (bytes ≡ light_proof_text p)
unfolding light_proof_in light_proof_text
light_proof_found bytes p fit e =
    let m = was_measured bytes _ p e in
    let headers = unless_ok _ _ p m.1 in
    let parts = was_read _ _ _ _ p headers.1 in
    let room = has_room bytes m.0.whole in
    let first_room = room.first in
    let second_room = room.second in
    let third_room = room.third in
    let n = count_in bytes in
    let hs = headers_in bytes n in
    let spelled = are_spelled bytes n fit headers.0 in
    let count = length-headers_in bytes n in
    let committed = found_at bytes 0 (first_place bytes) (second_place bytes) p.committed fit parts.committed in
    let second = found_at bytes 1 (second_place bytes) (third_place bytes) p.second fit parts.second in
    let third = found_at bytes 2 (third_place bytes) (length bytes) p.third fit parts.third in
    let behind_headers : drop (8 + 84 * n) bytes ≡ certificate_text p.committed ++ (certificate_text p.second ++ certificate_text p.third) =
    ap (λ (k : ℕ). drop k bytes) (sym (first_is bytes))
    ∙ taken_to bytes (first_place bytes) (second_place bytes) _ _ (omega arith) committed.1
    (taken_to bytes (second_place bytes) (third_place bytes) _ _ (omega arith) second.1 (last_taken bytes (third_place bytes) _ third.1)) in
    let number : piece 4 bytes 4 ≡ big_bytes 4 (length hs - 1) =
    piece-number_at 4 bytes 4 fit (omega (arith, m.0.long)) ∙ ap (λ (k : ℕ). big_bytes 4 k) (omega (arith, count)) in
    let whole : bytes ≡ codes "HSH1" ++ (big_bytes 4 (length hs - 1) ++ (flat_map header_text hs ++ (certificate_text p.committed ++ (certificate_text p.second ++ certificate_text p.third)))) =
    taken bytes 0 4 _ _ m.0.magic (taken bytes 4 4 _ _ number (taken bytes 8 (84 * n) _ _ (sym spelled.text) behind_headers)) in
    let least = m.0.least in
    let most = m.0.most in (
      record {
        least = subst (λ (xs : List Header). 3 ≤ length xs) parts.headers (omega (arith, count));
        most = subst (λ (xs : List Header). length xs ≤ 4097) parts.headers (omega (arith, count));
        each = subst (λ (xs : List Header). All IsHeader xs) parts.headers spelled.each;
        committed = committed.0;
        second = second.0;
        third = third.0;
      },
      whole ∙ ap (λ (xs : List Header). codes "HSH1" ++ (big_bytes 4 (length xs - 1) ++ (flat_map header_text xs ++ (certificate_text p.committed ++ (certificate_text p.second ++ certificate_text p.third))))) parts.headers,
    )

-- ---- what is spelled so is read

-- how long a certificate is
certificate_long : (c : Certificate) → IsCertificate c → length (certificate_text c) ≡ 42 + 1455 * entries_count (certificate_text c)
unfolding certificate_in
certificate_long c is =
    let whole = (need_ok _ _ _ c (certificate_again c is)).0 in
    eqb-true _ _ (and_parts _ _ whole).1

-- where it ends in a text that has it
end_again : (text : List ℕ) (at : ℕ) (c : Certificate) (rest : List ℕ) → IsCertificate c → drop at text ≡ certificate_text c ++ rest → certificate_end text at ≡ at + length (certificate_text c)
unfolding certificate_end number_at
end_again text at c rest is here =
    let long = certificate_long c is in
    let count : piece 2 text (at + 40) ≡ piece 2 (certificate_text c) 40 =
    ap (λ (t : List ℕ). take 2 t) (sym (drop-drop 40 at text) ∙ ap (λ (t : List ℕ). drop 40 t) here ∙ drop-append-le 40 (certificate_text c) rest (omega arith))
    ∙ take-append-le 2 (drop 40 (certificate_text c)) rest (omega (arith, length-drop 40 (certificate_text c))) in
    let same : number_at 2 text (at + 40) ≡ number_at 2 (certificate_text c) 40 = ap (λ (t : List ℕ). big_number 2 t) count in
    omega (arith, same)

-- the certificate is read there
place_again : (text : List ℕ) (i at to : ℕ) (c : Certificate) (rest : List ℕ) → IsCertificate c → drop at text ≡ certificate_text c ++ rest → to ≡ at + length (certificate_text c)
    → certificate_of_place text i at to ≡ Ok c
place_again text i at to c rest is here end =
    let long : to - at ≡ length (certificate_text c) = omega arith in
    let same : between text at to ≡ certificate_text c = ap (λ (n : ℕ). piece n text at) long ∙ front text at (length (certificate_text c)) (certificate_text c) rest here refl in
    ap (λ (t : List ℕ). certificate_as i (certificate_in t)) same ∙ ap (certificate_as i) (certificate_again c is)

abbrev made : List Header → Certificate → Certificate → Certificate → Result LightProof LightProofFormRefusal
made hs a b c = Ok (record { headers = hs; committed = a; second = b; third = c })

parts_again : (hs : List Header) (a b c : Result Certificate LightProofFormRefusal) (p : LightProof) → hs ≡ p.headers → a ≡ Ok p.committed → b ≡ Ok p.second → c ≡ Ok p.third
    → of_parts hs a b c ≡ Ok p
parts_again hs a b c p h x y z =
    ap (λ (s : Result Certificate LightProofFormRefusal). of_parts hs s b c) x
    ∙ ap (λ (s : Result Certificate LightProofFormRefusal). of_parts hs (read p.committed) s c) y
    ∙ ap (λ (s : Result Certificate LightProofFormRefusal). of_parts hs (read p.committed) (read p.second) s) z
    ∙ ap (λ (xs : List Header). made xs p.committed p.second p.third) h

-- where the parts of a text stand
record Stand (text : List ℕ) (p : LightProof) : Type 0 where
  headers : HasHeaders text p.headers
  count : count_in text ≡ length p.headers
  magic : piece 4 text 0 ≡ codes "HSH1"
  committed : drop (first_place text) text ≡ certificate_text p.committed ++ (certificate_text p.second ++ certificate_text p.third)
  second : drop (second_place text) text ≡ certificate_text p.second ++ certificate_text p.third
  third : drop (third_place text) text ≡ certificate_text p.third
  second_at : second_place text ≡ first_place text + length (certificate_text p.committed)
  third_at : third_place text ≡ second_place text + length (certificate_text p.second)
  end_at : length text ≡ third_place text + length (certificate_text p.third)

stand : (p : LightProof) → IsLightProof p → Stand (light_proof_text p) p
unfolding light_proof_text
stand p is =
    let text = light_proof_text p in
    let n = length p.headers in
    let hs = flat_map header_text p.headers in
    let x = certificate_text p.committed in
    let y = certificate_text p.second in
    let z = certificate_text p.third in
    let least = is.least in
    let most = is.most in
    let one : drop 8 text ≡ hs ++ (x ++ (y ++ z)) = refl in
    let count : number_in text ≡ n - 1 = number_again 4 text 4 (n - 1) (omega arith) refl in
    let first : first_place text ≡ 8 + 84 * n = first_is text ∙ omega (arith, count) in
    let two : drop (8 + 84 * n) text ≡ x ++ (y ++ z) = behind text 8 (84 * n) hs (x ++ (y ++ z)) one (length-texts p.headers is.each) in
    let committed : drop (first_place text) text ≡ x ++ (y ++ z) = ap (λ (k : ℕ). drop k text) first ∙ two in
    let second_at : second_place text ≡ first_place text + length x = second_is text ∙ end_again text (first_place text) p.committed (y ++ z) is.committed committed in
    let second : drop (second_place text) text ≡ y ++ z = ap (λ (k : ℕ). drop k text) second_at ∙ behind text (first_place text) (length x) x (y ++ z) committed refl in
    let third_at : third_place text ≡ second_place text + length y = third_is text ∙ end_again text (second_place text) p.second z is.second second in
    let third : drop (third_place text) text ≡ z = ap (λ (k : ℕ). drop k text) third_at ∙ behind text (second_place text) (length y) y z second refl in
    let inside = ap (λ (t : List ℕ). length t) third in
    let long_third = certificate_long p.third is.third in
    record {
      headers = record { rest = x ++ (y ++ z); here = one; each = is.each };
      count = omega (arith, count);
      magic = refl;
      committed = committed;
      second = second;
      third = third;
      second_at = second_at;
      third_at = third_at;
      end_at = omega (arith, inside, length-drop (third_place text) text);
    }

room_again : (text : List ℕ) (p : LightProof) → IsLightProof p → Stand text p → HasRoom text
room_again text p is s =
    let a = certificate_long p.committed is.committed in
    let b = certificate_long p.second is.second in
    let c = certificate_long p.third is.third in
    let second_at = s.second_at in
    let third_at = s.third_at in
    let end_at = s.end_at in
    record {
      first = omega arith;
      second = omega arith;
      third = omega arith;
      end = s.end_at ∙ sym (end_again text (third_place text) p.third [] is.third (s.third ∙ sym (append-nil (certificate_text p.third))));
    }

measured_again : (text : List ℕ) (p : LightProof) → IsLightProof p → Stand text p → IsMeasured text
measured_again text p is s =
    let room = room_again text p is s in
    let third_room = room.third in
    let count = s.count in
    let least = is.least in
    let most = is.most in
    let first = room.first in
    let second = room.second in
    record { long = omega (arith, first_is text); magic = s.magic; least = omega arith; most = omega arith; whole = whole_from text room }

pub light_proof_again : (p : LightProof) → IsLightProof p → light_proof_in (light_proof_text p) ≡ Ok p
light_proof_again p is =
    let text = light_proof_text p in
    let s = stand p is in
    let n = length p.headers in
    let count = s.count in
    let none : first_of (bad_header text) (count_in text) ≡ None = none_refused text p.headers (count_in text) no_header s.headers (omega arith) in
    let headers : headers_in text (count_in text) ≡ p.headers = headers_again text p.headers (count_in text) no_header s.headers (omega arith) ∙ take_all (count_in text) p.headers (omega arith) in
    past_headers text (measured_again text p is s) none
    ∙ parts_again _ _ _ _ p headers
    (place_again text 0 (first_place text) (second_place text) p.committed _ is.committed s.committed s.second_at)
    (place_again text 1 (second_place text) (third_place text) p.second _ is.second s.second s.third_at)
    (place_again text 2 (third_place text) (length text) p.third [] is.third (s.third ∙ sym (append-nil (certificate_text p.third))) s.end_at)
