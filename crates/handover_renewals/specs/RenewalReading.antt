-- Reading a renewal from left to right, with the first refusal that is met.
use Rattle.std.specs.Prelude.{◌==◌, ℕ, List, codes, drop, length, nat_le, Result, Ok, Err}
use Rattle.std.specs.Str.{bytes_eq}
use Rattle.base_wire.specs.Pieces.{piece, number_at}
use Rattle.base_wire.specs.Refusals.{need}
use Rattle.certificates.specs.Certificates.{Certificate}
use Rattle.certificates.specs.CertificateReading.{certificate_in}
use Rattle.certificates.specs.declared.certificate.CertificateRefusal.{CertificateRefusal}
use Rattle.certificates.specs.declared.certificate.CertificateRefusal.TheVariants as of
use Rattle.handover_renewals.specs.declared.format.RenewalFormRefusal.{RenewalFormRefusal}
use Rattle.handover_renewals.specs.declared.format.RenewalFormRefusal.TheVariants.{Memory, Short, Magic, View, Length, Order, Count}
use Rattle.handover_renewals.specs.Renewals.{Renewal}

-- a refusal of the certificate
abbrev pub of_form : CertificateRefusal → RenewalFormRefusal
of_form of.Memory = Memory
of_form of.Length = Length
of_form of.Order = Order
of_form of.Count = Count

-- the certificate that was read, with the chain
abbrev pub with_chain : List ℕ → Result Certificate CertificateRefusal → Result Renewal RenewalFormRefusal
with_chain chain (Ok c) = Ok (record { chain = chain; certificate = c })
with_chain chain (Err e) = Err (of_form e)

-- the renewal that the bytes spell, or why they spell none
unfoldable pub renewal_in : List ℕ → Result Renewal RenewalFormRefusal
renewal_in bytes =
    need (nat_le 78 (length bytes)) Short (
    need (bytes_eq (codes "HSR1") (piece 4 bytes 0)) Magic (
    need (number_at 8 bytes 36 == 1) View (
    with_chain (piece 32 bytes 4) (certificate_in (drop 36 bytes)))))

-- the number that docs/REFUSALS.md gives a refusal
abbrev pub form_refusal_number : RenewalFormRefusal → ℕ
form_refusal_number Memory = 1
form_refusal_number Short = 2
form_refusal_number Magic = 3
form_refusal_number View = 4
form_refusal_number Length = 5
form_refusal_number Order = 6
form_refusal_number Count = 7

-- its name, as it is printed
abbrev pub form_refusal_name : RenewalFormRefusal → List ℕ
form_refusal_name Memory = codes "Memory"
form_refusal_name Short = codes "Short"
form_refusal_name Magic = codes "Magic"
form_refusal_name View = codes "View"
form_refusal_name Length = codes "Length"
form_refusal_name Order = codes "Order"
form_refusal_name Count = codes "Count"
