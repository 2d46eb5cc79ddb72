-- Requests that name a chain, as they are read.
use Rattle.std.proofs.Common.{◌≡◌, ◌+◌, ℕ, List, ◌++◌, length, take, drop, refl, sym, ap, ◌∙◌, arith, append_assoc}
use Rattle.std.specs.Prelude.{codes}
use Rattle.std.proofs.lemmas.List.{take_at, drop_at, take_all, length-append}
use Rattle.byteorder.specs.Endian.{big_bytes}
use Rattle.base_wire.specs.Pieces.{number_at, piece, AreBytes}
use Rattle.base_wire.proofs.Numbers.{taken, cut_last, length-piece, piece-number_at, number_again, number_below}
use Rattle.log_request.specs.ChainRequests.{IsChainRequest, chain_request_text}
use Rattle.log_request.specs.declared.request.ChainRequest.{ChainRequest}

-- the request whose parts stand there
abbrev pub request_at : List ℕ → ChainRequest
request_at bytes = record { chain = piece 32 bytes 4; first = number_at 4 bytes 36; most = number_at 4 bytes 40 }

pub request_found : (bytes : List ℕ) → AreBytes bytes → length bytes ≡ 44 → take 4 bytes ≡ codes "HSL2" → IsChainRequest (request_at bytes) × (bytes ≡ chain_request_text (request_at bytes))
unfolding chain_request_text
request_found bytes fit long magic = (
  record {
    chain = length-piece 32 bytes 4 (omega arith);
    first = number_below 4 bytes 36 fit;
    most = number_below 4 bytes 40 fit;
  },
  taken bytes 0 4 (codes "HSL2") _ magic (
      taken bytes 4 32 _ _ refl (
      taken bytes 36 4 _ _ (piece-number_at 4 bytes 36 fit (omega arith))
      (cut_last bytes 40 4 long ∙ piece-number_at 4 bytes 40 fit (omega arith)))),
)

-- the two numbers behind the chain
abbrev numbers_of : ChainRequest → List ℕ
numbers_of r = big_bytes 4 r.first ++ big_bytes 4 r.most

chain_stands : (r : ChainRequest) → length r.chain ≡ 32 → piece 32 (chain_request_text r) 4 ≡ r.chain
unfolding chain_request_text
chain_stands r long = take_at r.chain (numbers_of r) 32 long

numbers_stand : (r : ChainRequest) → length r.chain ≡ 32 → drop 36 (chain_request_text r) ≡ numbers_of r
unfolding chain_request_text
numbers_stand r long = drop_at r.chain (numbers_of r) 32 long

most_stands : (r : ChainRequest) → length r.chain ≡ 32 → drop 40 (chain_request_text r) ≡ big_bytes 4 r.most
unfolding chain_request_text
most_stands r long =
    ap (λ (t : List ℕ). drop 36 t) (sym (append_assoc r.chain (big_bytes 4 r.first) (big_bytes 4 r.most)))
    ∙ drop_at (r.chain ++ big_bytes 4 r.first) (big_bytes 4 r.most) 36 (omega (arith, length-append r.chain (big_bytes 4 r.first), long))

abbrev made : List ℕ → ℕ → ℕ → ChainRequest
made chain first most = record { chain = chain; first = first; most = most }

alike : (c d : List ℕ) (m n p q : ℕ) → c ≡ d → m ≡ n → p ≡ q → made c m p ≡ made d n q
alike c d m n p q e f g = cc

pub request_again : (r : ChainRequest) → IsChainRequest r → request_at (chain_request_text r) ≡ r
request_again r is =
    let text = chain_request_text r in
    let first : number_at 4 text 36 ≡ r.first = number_again 4 text 36 r.first is.first (ap (λ (t : List ℕ). take 4 t) (numbers_stand r is.chain)) in
    let most : number_at 4 text 40 ≡ r.most = number_again 4 text 40 r.most is.most (ap (λ (t : List ℕ). take 4 t) (most_stands r is.chain)) in
    alike _ _ _ _ _ _ (chain_stands r is.chain) first most

-- such a request has 44 bytes, and begins with the magic
pub length-chain_request_text : (r : ChainRequest) → IsChainRequest r → length (chain_request_text r) ≡ 44
unfolding chain_request_text
length-chain_request_text r is = omega (arith, length-append r.chain (numbers_of r), is.chain)

pub magic_stands : (r : ChainRequest) → take 4 (chain_request_text r) ≡ codes "HSL2"
unfolding chain_request_text
magic_stands r = refl

-- the same request, of parts that were read one by one
pub request_is : (bytes chain : List ℕ) (first most : ℕ) → chain ≡ piece 32 bytes 4 → first ≡ number_at 4 bytes 36 → most ≡ number_at 4 bytes 40 → request_at bytes ≡ made chain first most
request_is bytes chain first most e f g = alike _ _ _ _ _ _ (sym e) (sym f) (sym g)

-- four parts that were put one behind the other
pub four_parts : (magic chain first most a b c d : List ℕ) → length chain ≡ 32 → length d ≡ 44 → take 4 a ≡ magic
    → take (4 + length chain) b ≡ take 4 a ++ chain → take 40 c ≡ take 36 b ++ first → take 44 d ≡ take 40 c ++ most
    → d ≡ magic ++ (chain ++ (first ++ most))
four_parts magic chain first most a b c d long whole e f g h =
    let named : take 36 b ≡ magic ++ chain = ap (λ (n : ℕ). take (4 + n) b) (sym long) ∙ f ∙ ap (λ (t : List ℕ). t ++ chain) e in
    let numbered : take 40 c ≡ (magic ++ chain) ++ first = g ∙ ap (λ (t : List ℕ). t ++ first) named in
    let all : d ≡ ((magic ++ chain) ++ first) ++ most = sym (take_all 44 d (omega (arith, whole))) ∙ h ∙ ap (λ (t : List ℕ). t ++ most) numbered in
    all ∙ simp append_assoc
