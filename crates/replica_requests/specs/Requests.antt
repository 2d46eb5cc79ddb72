-- What the bytes of a block ask for.
use Rattle.std.specs.Prelude.{◌≡◌, ℕ, List, Ok, Err, take, drop}
use Rattle.blocks.specs.HeaderReading.{header_in}
use Rattle.blocks.specs.Headers.{Header}
use Rattle.certificates.specs.CertificateReading.{certificate_in}
use Rattle.replica_requests.specs.declared.request.Request.{Request}
use Rattle.replica_requests.specs.declared.request.Request.TheVariants.{Block, Timeout, RefusedHeader, RefusedCertificate}

-- of a block's bytes the first 84 are its header, and the others its certificate
abbrev pub IsOfBlock : List ℕ → Request → Type 0
IsOfBlock bytes (Block header certificate) = (header_in (take 84 bytes) ≡ Ok header) × (certificate_in (drop 84 bytes) ≡ Ok certificate)
IsOfBlock bytes (RefusedHeader refusal) = header_in (take 84 bytes) ≡ Err refusal
IsOfBlock bytes (RefusedCertificate refusal) =
    (header : Header) × (header_in (take 84 bytes) ≡ Ok header) × (certificate_in (drop 84 bytes) ≡ Err refusal)
IsOfBlock bytes (Timeout view) = ⊥
