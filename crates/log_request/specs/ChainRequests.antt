-- A request for a part of the log of one chain, and what requests ask of a server. docs/FORMATS.md, 'Request for a chain'.
use Rattle.std.specs.Prelude.{ℕ, ◌≡◌, ◌≢◌, ◌⊎◌, ◌<◌, ◌^◌, ◌++◌, List, codes, length}
use Rattle.byteorder.specs.Endian.{big_bytes}
use Rattle.log_format.specs.Requests.{IsRequest, request_text}
use Rattle.log_format.specs.declared.request.FrameRequest.{FrameRequest}
use Rattle.log_request.specs.declared.request.ChainRequest.{ChainRequest}
use Rattle.log_request.specs.declared.asking.Asked.{Asked}
use Rattle.log_request.specs.declared.asking.Asked.TheVariants.{Frames, OtherChain}

-- the chain's id has 32 bytes, and both numbers fit four
pub record IsChainRequest (r : ChainRequest) : Type 0 where
  pub chain : length r.chain ≡ 32
  pub first : r.first < 2 ^ 32
  pub most : r.most < 2 ^ 32

-- its 44 bytes
unfoldable pub chain_request_text : ChainRequest → List ℕ
chain_request_text r = codes "HSL2" ++ (r.chain ++ (big_bytes 4 r.first ++ big_bytes 4 r.most))

-- the same request, of this chain
abbrev pub of_chain : List ℕ → FrameRequest → ChainRequest
of_chain chain r = record { chain = chain; first = r.first; most = r.most }

-- what bytes ask of a server that has the log of this chain: frames of it, by a request that names no chain or this one; or those of
-- another chain
abbrev pub IsAskedIn : List ℕ → List ℕ → Asked → Type 0
IsAskedIn chain bytes (Frames r) = IsRequest r × ((bytes ≡ request_text r) ⊎ (bytes ≡ chain_request_text (of_chain chain r)))
IsAskedIn chain bytes OtherChain = (r : ChainRequest) × IsChainRequest r × (bytes ≡ chain_request_text r) × (r.chain ≢ chain)
