-- What a signer writes down where its log was put back.
use Rattle.std.specs.Prelude.{ℕ, List, ◌++◌, codes}
use Rattle.byteorder.specs.Endian.{big_bytes}
use Rattle.blocks.specs.Headers.{Header, header_text}
use Rattle.certificates.specs.Certificates.{Certificate, certificate_text}

-- the magic, how many entries the log has, the block and the certificate that came with it
abbrev pub put_back_text : ℕ → Header → Certificate → List ℕ
put_back_text entries header certificate =
    codes "HSP1" ++ (big_bytes 4 entries ++ (header_text header ++ certificate_text certificate))
