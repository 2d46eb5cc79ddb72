-- Requests, as they are read.
use Rattle.std.proofs.Common.{◌≡◌, ℕ, List, length, take, refl, sym, ap, ◌∙◌, arith}
use Rattle.std.specs.Prelude.{codes}
use Rattle.base_wire.specs.Pieces.{number_at, AreBytes}
use Rattle.base_wire.proofs.Numbers.{taken, cut_last, piece-number_at, number_again, number_below}
use Rattle.log_format.specs.Requests.{IsRequest, request_text}
use Rattle.log_format.specs.declared.request.FrameRequest.{FrameRequest}

-- the request whose numbers stand there
abbrev pub request_at : List ℕ → FrameRequest
request_at bytes = record { first = number_at 4 bytes 4; most = number_at 4 bytes 8 }

pub request_found : (bytes : List ℕ) → AreBytes bytes → length bytes ≡ 12 → take 4 bytes ≡ codes "HSL1" → IsRequest (request_at bytes) × (bytes ≡ request_text (request_at bytes))
unfolding request_text
request_found bytes fit long magic = (
  record { first = number_below 4 bytes 4 fit; most = number_below 4 bytes 8 fit },
  taken bytes 0 4 (codes "HSL1") _ magic (
      taken bytes 4 4 _ _ (piece-number_at 4 bytes 4 fit (omega arith))
      (cut_last bytes 8 4 long ∙ piece-number_at 4 bytes 8 fit (omega arith))),
)

abbrev made : ℕ → ℕ → FrameRequest
made first most = record { first = first; most = most }

pub request_again : (r : FrameRequest) → IsRequest r → request_at (request_text r) ≡ r
unfolding request_text
request_again r is =
    let first : number_at 4 (request_text r) 4 ≡ r.first = number_again 4 (request_text r) 4 r.first is.first refl in
    let most : number_at 4 (request_text r) 8 ≡ r.most = number_again 4 (request_text r) 8 r.most is.most refl in
    ap (λ (n : ℕ). made n (number_at 4 (request_text r) 8)) first ∙ ap (λ (n : ℕ). made r.first n) most

-- a request has 12 bytes, and begins with the magic
pub request_head : (r : FrameRequest) → (length (request_text r) ≡ 12) × (take 4 (request_text r) ≡ codes "HSL1")
unfolding request_text
request_head r = (refl, refl)

-- the same request, of numbers that were read one by one
pub request_is : (bytes : List ℕ) (first most : ℕ) → first ≡ number_at 4 bytes 4 → most ≡ number_at 4 bytes 8 → request_at bytes ≡ made first most
request_is bytes first most e f = ap (λ (n : ℕ). made n (number_at 4 bytes 8)) (sym e) ∙ ap (λ (n : ℕ). made first n) (sym f)
