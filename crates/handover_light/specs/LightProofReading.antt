-- Reading a light proof from left to right, with the first refusal that is met.
use Rattle.std.specs.Prelude.{◌≡◌, ◌≤◌, ◌==◌, ◌&&◌, ◌+◌, ◌-◌, ◌*◌, ◌++◌, ℕ, zero, suc, Bool, true, List, [], ◌∷◌, codes, length, nat_le, Option, Some, None, Result, Ok, Err}
use Rattle.std.specs.Str.{bytes_eq}
use Rattle.base_wire.specs.Pieces.{piece, number_at}
use Rattle.base_wire.specs.Refusals.{first_of, need, unless}
use Rattle.blocks.specs.Headers.{Header}
use Rattle.blocks.specs.HeaderReading.{header_at, header_in}
use Rattle.certificates.specs.Certificates.{Certificate}
use Rattle.certificates.specs.CertificateReading.{certificate_in}
use Rattle.certificates.specs.declared.certificate.TheConstants.{ENDORSEMENT_LEN}
use Rattle.certificates.specs.declared.certificate.CertificateRefusal.{CertificateRefusal}
use Rattle.certificates.specs.declared.certificate.CertificateRefusal.TheVariants as of
use Rattle.handover_light.specs.declared.format.LightProofFormRefusal.{LightProofFormRefusal}
use Rattle.handover_light.specs.declared.format.LightProofFormRefusal.TheVariants.{Memory, Short, Magic, Number, Length, Header as BadHeader, Order, Count}
use Rattle.handover_light.specs.LightProofs.{LightProof}

-- ---- the headers at their places

-- how many headers follow the first
abbrev pub number_in : List ℕ → ℕ
number_in bytes = number_at 4 bytes 4

-- how many there are
abbrev pub count_in : List ℕ → ℕ
count_in bytes = number_in bytes + 1

-- the bytes of header k
abbrev pub header_piece : List ℕ → ℕ → List ℕ
header_piece bytes k = piece 84 bytes (8 + 84 * k)

-- the first n headers
unfoldable pub headers_in : List ℕ → ℕ → List Header
headers_in bytes zero = []
headers_in bytes (suc n) = headers_in bytes n ++ header_at (header_piece bytes n) ∷ []

-- this refusal, of what is none
abbrev pub refused_as : {A E R : Type 0} → R → Result A E → Option R
refused_as r (Ok x) = None
refused_as r (Err e) = Some r

-- the refusal of header k
unfoldable pub bad_header : List ℕ → ℕ → Option LightProofFormRefusal
bad_header bytes k = refused_as (BadHeader k) (header_in (header_piece bytes k))

-- ---- the certificates at their places

-- where the certificate ends that begins at a place, by the number of entries that it names
unfoldable pub certificate_end : List ℕ → ℕ → ℕ
certificate_end bytes at = at + 42 + ENDORSEMENT_LEN * number_at 2 bytes (at + 40)

-- where the first begins, the second, and the third
unfoldable pub first_place : List ℕ → ℕ
first_place bytes = 8 + 84 * count_in bytes

unfoldable pub second_place : List ℕ → ℕ
second_place bytes = certificate_end bytes (first_place bytes)

unfoldable pub third_place : List ℕ → ℕ
third_place bytes = certificate_end bytes (second_place bytes)

-- the bytes from a place to another
abbrev pub between : List ℕ → ℕ → ℕ → List ℕ
between bytes from to = piece (to - from) bytes from

-- ---- the tests

-- whether what stands before the entries of a certificate is there
abbrev pub has_head : List ℕ → ℕ → Bool
has_head bytes at = nat_le (at + 42) (length bytes)

-- whether the bytes are as many as the headers and the three certificates ask for
unfoldable pub is_whole : List ℕ → Bool
is_whole bytes =
    has_head bytes (first_place bytes)
    && (has_head bytes (second_place bytes) && (has_head bytes (third_place bytes) && (length bytes == certificate_end bytes (third_place bytes))))

-- whether 2 to 4,096 headers follow the first
abbrev pub has_number : List ℕ → Bool
has_number bytes = nat_le 2 (number_in bytes) && nat_le (number_in bytes) 4096

-- the tests of how many bytes there are, before any header or certificate is read
unfoldable pub measured : {A : Type 0} → List ℕ → Result A LightProofFormRefusal → Result A LightProofFormRefusal
measured bytes next =
    need (nat_le 8 (length bytes)) Short (
    need (bytes_eq (codes "HSH1") (piece 4 bytes 0)) Magic (
    need (has_number bytes) Number (
    need (is_whole bytes) Length next)))

-- .. are passed
pub record IsMeasured (bytes : List ℕ) : Type 0 where
  pub long : 8 ≤ length bytes
  pub magic : piece 4 bytes 0 ≡ codes "HSH1"
  pub least : 2 ≤ number_in bytes
  pub most : number_in bytes ≤ 4096
  pub whole : is_whole bytes ≡ true

-- ---- the light proof

-- the refusal of certificate c
abbrev pub of_certificate : ℕ → CertificateRefusal → LightProofFormRefusal
of_certificate c of.Memory = Memory
of_certificate c of.Length = Length
of_certificate c of.Order = Order c
of_certificate c of.Count = Count c

-- certificate c, or why it is none
abbrev pub certificate_as : ℕ → Result Certificate CertificateRefusal → Result Certificate LightProofFormRefusal
certificate_as c (Ok x) = Ok x
certificate_as c (Err e) = Err (of_certificate c e)

-- the light proof of these parts, or why the first that is none is none
abbrev pub of_parts : List Header → (a b c : Result Certificate LightProofFormRefusal) → Result LightProof LightProofFormRefusal
of_parts hs (Ok a) (Ok b) (Ok c) = Ok (record { headers = hs; committed = a; second = b; third = c })
of_parts hs (Ok a) (Ok b) (Err r) = Err r
of_parts hs (Ok a) (Err r) c = Err r
of_parts hs (Err r) b c = Err r

-- certificate c, from a place to another
abbrev pub certificate_of_place : List ℕ → ℕ → ℕ → ℕ → Result Certificate LightProofFormRefusal
certificate_of_place bytes c from to = certificate_as c (certificate_in (between bytes from to))

-- the light proof that the bytes spell, or why they spell none
unfoldable pub light_proof_in : List ℕ → Result LightProof LightProofFormRefusal
light_proof_in bytes =
    measured bytes (
    unless (first_of (bad_header bytes) (count_in bytes)) (
    of_parts (headers_in bytes (count_in bytes))
    (certificate_of_place bytes 0 (first_place bytes) (second_place bytes))
    (certificate_of_place bytes 1 (second_place bytes) (third_place bytes))
    (certificate_of_place bytes 2 (third_place bytes) (length bytes))))

-- the number that docs/REFUSALS.md gives a refusal
abbrev pub form_refusal_number : LightProofFormRefusal → ℕ
form_refusal_number Memory = 1
form_refusal_number Short = 2
form_refusal_number Magic = 3
form_refusal_number Number = 4
form_refusal_number Length = 5
form_refusal_number (BadHeader k) = 6
form_refusal_number (Order c) = 7
form_refusal_number (Count c) = 8

-- its name, as it is printed
abbrev pub form_refusal_name : LightProofFormRefusal → List ℕ
form_refusal_name Memory = codes "Memory"
form_refusal_name Short = codes "Short"
form_refusal_name Magic = codes "Magic"
form_refusal_name Number = codes "Number"
form_refusal_name Length = codes "Length"
form_refusal_name (BadHeader k) = codes "Header"
form_refusal_name (Order c) = codes "Order"
form_refusal_name (Count c) = codes "Count"
