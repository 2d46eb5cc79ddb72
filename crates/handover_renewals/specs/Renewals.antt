-- A renewal and its bytes, as docs/FORMATS.md, "Renewal", lays them out.
use Rattle.std.specs.Prelude.{◌≡◌, ◌++◌, ℕ, List, codes, length}
use Rattle.certificates.specs.Certificates.{Certificate, IsCertificate, certificate_text}

-- the chain id of the committee before, and a certificate whose id is the digest of the next committee's file, and whose signatures are
-- those of the statements of the next keys
pub record Renewal : Type 0 where
  pub chain : List ℕ
  pub certificate : Certificate

-- a renewal that has bytes: its certificate is of view 1
pub record IsRenewal (r : Renewal) : Type 0 where
  pub chain : length r.chain ≡ 32
  pub view : r.certificate.view ≡ 1
  pub certificate : IsCertificate r.certificate

-- "HSR1", the chain id, and the certificate
unfoldable pub renewal_text : Renewal → List ℕ
renewal_text r = codes "HSR1" ++ (r.chain ++ certificate_text r.certificate)
