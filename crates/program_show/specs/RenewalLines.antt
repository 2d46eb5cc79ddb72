-- What is shown of a renewal. Nothing in it is checked.
use Rattle.std.specs.Prelude.{ℕ, zero, suc, ◌++◌, List, [], length, codes, decimal, Result, Ok, Err}
use Rattle.hex.specs.Hex.{encode_lower}
use Rattle.certificates.specs.Certificates.{Certificate, nth_endorsement}
use Rattle.handover_renewals.specs.Renewals.{Renewal}
use Rattle.handover_renewals.specs.RenewalReading.{form_refusal_number}
use Rattle.handover_renewals.specs.declared.format.RenewalFormRefusal.{RenewalFormRefusal}
use Rattle.program_show.specs.Lines.{chain_line, shown_refusal_line, unchecked_line}
use Rattle.program_show.specs.Names.{renewal_refusal_name}

-- "renewal signatures N"
unfoldable pub renewal_line : ℕ → List ℕ
renewal_line count = codes "renewal signatures " ++ decimal count ++ codes "\n"

-- "next committee sha256 HEX": the digest of the next committee's file
unfoldable pub next_committee_line : List ℕ → List ℕ
next_committee_line digest = codes "next committee sha256 " ++ encode_lower digest ++ codes "\n"

-- "signature replica R key K": the number of the replica's present key that signed
unfoldable pub signature_line : ℕ → ℕ → List ℕ
signature_line replica key = codes "signature replica " ++ decimal replica ++ codes " key " ++ decimal key ++ codes "\n"

-- of the first signatures, so many
abbrev pub signature_lines : Certificate → ℕ → List ℕ
signature_lines c zero = []
signature_lines c (suc k) = signature_lines c k ++ signature_line (nth_endorsement c k).replica (nth_endorsement c k).key

abbrev pub renewal_lines : Renewal → List ℕ
renewal_lines r =
    renewal_line (length r.certificate.entries) ++ chain_line r.chain ++ next_committee_line r.certificate.id
    ++ signature_lines r.certificate (length r.certificate.entries) ++ unchecked_line (length r.certificate.entries)

-- of a file that begins as a renewal: what stands in it, or why it is none
abbrev pub renewal_file : Result Renewal RenewalFormRefusal → List ℕ
renewal_file (Ok r) = renewal_lines r
renewal_file (Err refusal) = shown_refusal_line (codes "renewal") (form_refusal_number refusal) (renewal_refusal_name refusal)
