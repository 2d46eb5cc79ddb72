-- A light proof and its bytes, as docs/FORMATS.md, "Light proof", lays them out.
use Rattle.std.specs.Prelude.{◌≤◌, ◌-◌, ◌++◌, ℕ, List, codes, length}
use Rattle.std.specs.List.{All, flat_map}
use Rattle.byteorder.specs.Endian.{big_bytes}
use Rattle.blocks.specs.Headers.{Header, IsHeader, header_text}
use Rattle.certificates.specs.Certificates.{Certificate, IsCertificate, certificate_text}

-- the headers from the block that hands over to the last of the three that are certified, and the certificates of these three: of the
-- block that is committed, of the second and of the third
pub record LightProof : Type 0 where
  pub headers : List Header
  pub committed : Certificate
  pub second : Certificate
  pub third : Certificate

-- 3 to 4,097 headers
pub record HasNumber (headers : List Header) : Type 0 where
  pub least : 3 ≤ length headers
  pub most : length headers ≤ 4097

-- a light proof that has bytes: of 3 to 4,097 headers
pub record IsLightProof (p : LightProof) : Type 0 where
  pub least : 3 ≤ length p.headers
  pub most : length p.headers ≤ 4097
  pub each : All IsHeader p.headers
  pub committed : IsCertificate p.committed
  pub second : IsCertificate p.second
  pub third : IsCertificate p.third

-- "HSH1", how many headers follow the first, the headers, and the certificates
unfoldable pub light_proof_text : LightProof → List ℕ
light_proof_text p =
    codes "HSH1"
    ++ (big_bytes 4 (length p.headers - 1)
    ++ (flat_map header_text p.headers ++ (certificate_text p.committed ++ (certificate_text p.second ++ certificate_text p.third))))
