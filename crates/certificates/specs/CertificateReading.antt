-- Reading a certificate from left to right, with the first refusal that is met.
use Rattle.std.specs.Prelude.{◌==◌, ◌&&◌, ◌+◌, ◌*◌, ◌++◌, ℕ, zero, suc, Bool, true, List, [], ◌∷◌, length, slice_index, nat_le, nat_lt, Result, Ok, if◌then◌else◌}
use Rattle.base_wire.specs.Pieces.{piece, number_at}
use Rattle.base_wire.specs.Refusals.{need}
use Rattle.certificates.specs.declared.certificate.Endorsement.{Endorsement}
use Rattle.certificates.specs.declared.certificate.CertificateRefusal.{CertificateRefusal}
use Rattle.certificates.specs.declared.certificate.CertificateRefusal.TheVariants.{Memory, Length, Order, Count}
use Rattle.lms_tree.specs.declared.TheConstants.{SIGNATURE_LEN}
use Rattle.certificates.specs.declared.certificate.TheConstants.{ENDORSEMENT_LEN, MOST_ENDORSEMENTS}
use Rattle.certificates.specs.Certificates.{Certificate}

-- ---- the parts of a certificate at their places

-- how many entries it names
abbrev pub count_in : List ℕ → ℕ
count_in bytes = number_at 2 bytes 40

unfoldable pub endorsement_at : List ℕ → ℕ → Endorsement
endorsement_at bytes k = record {
  replica = number_at 2 bytes (42 + ENDORSEMENT_LEN * k);
  key = slice_index bytes (44 + ENDORSEMENT_LEN * k);
  signature = piece SIGNATURE_LEN bytes (45 + ENDORSEMENT_LEN * k);
}

-- the first n entries
unfoldable pub entries_in : List ℕ → ℕ → List Endorsement
entries_in bytes zero = []
entries_in bytes (suc n) = entries_in bytes n ++ endorsement_at bytes n ∷ []

abbrev pub certificate_at : List ℕ → Certificate
certificate_at bytes = record { view = number_at 8 bytes 0; id = piece 32 bytes 8; entries = entries_in bytes (count_in bytes) }

-- ---- its tests

-- whether the bytes are as many as the number of entries asks for
abbrev pub is_whole_certificate : List ℕ → Bool
is_whole_certificate bytes = nat_le 42 (length bytes) && (length bytes == 42 + ENDORSEMENT_LEN * count_in bytes)

-- whether each replica is at least `least`, and above the one before it
abbrev pub rises_from : ℕ → List Endorsement → Bool
rises_from least [] = true
rises_from least (e ∷ es) = nat_le least e.replica && rises_from (e.replica + 1) es

abbrev pub is_rising : List Endorsement → Bool
is_rising es = rises_from 0 es

-- whether there are entries in a view above 0, no more than the most, or none in view 0
abbrev pub has_count : ℕ → ℕ → Bool
has_count view count = if view == 0 then count == 0 else (nat_lt 0 count && nat_le count MOST_ENDORSEMENTS)

-- the certificate that the bytes spell, or why they spell none
unfoldable pub certificate_in : List ℕ → Result Certificate CertificateRefusal
certificate_in bytes =
    need (is_whole_certificate bytes) Length (
    need (is_rising (entries_in bytes (count_in bytes))) Order (
    need (has_count (number_at 8 bytes 0) (count_in bytes)) Count (
    Ok (certificate_at bytes))))

-- the number that docs/REFUSALS.md gives a refusal
abbrev pub certificate_refusal_number : CertificateRefusal → ℕ
certificate_refusal_number Memory = 1
certificate_refusal_number Length = 2
certificate_refusal_number Order = 3
certificate_refusal_number Count = 4
