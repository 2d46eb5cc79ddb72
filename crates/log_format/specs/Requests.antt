-- The request for a part of a log. docs/FORMATS.md, 'Request'.
use Rattle.std.specs.Prelude.{ℕ, ◌<◌, ◌^◌, ◌++◌, List, codes}
use Rattle.byteorder.specs.Endian.{big_bytes}
use Rattle.log_format.specs.declared.request.FrameRequest.{FrameRequest}

-- both numbers fit four bytes
pub record IsRequest (r : FrameRequest) : Type 0 where
  pub first : r.first < 2 ^ 32
  pub most : r.most < 2 ^ 32

-- its 12 bytes
unfoldable pub request_text : FrameRequest → List ℕ
request_text r = codes "HSL1" ++ (big_bytes 4 r.first ++ big_bytes 4 r.most)
