-- Bytes that are a request of one kind are none of the other.
use Rattle.std.proofs.Common.{◌≡◌, ◌++◌, ◌∙◌, ℕ, List, Some, length, ap, sym, refl, arith, inl, inr}
use Rattle.log_format.specs.Requests.{IsRequest, request_text}
use Rattle.log_format.specs.declared.request.FrameRequest.{FrameRequest}
use Rattle.log_format.proofs.Requests.{request_head}
use Rattle.log_request.specs.ChainRequests.{IsAskedIn, IsChainRequest, chain_request_text, of_chain}
use Rattle.log_request.specs.declared.request.ChainRequest.{ChainRequest}
use Rattle.log_request.specs.declared.asking.Asked.{Asked}
use Rattle.log_request.specs.declared.asking.Asked.TheVariants.{Frames, OtherChain}
use Rattle.log_request.specs.Gathering.{first_request, request_len}
use Rattle.log_request.proofs.ChainRequestBytes.{length-chain_request_text}
use Rattle.log_request.proofs.GatheringLaws.{first_of_short, whole_stays}

-- one has 12 bytes, the other 44
pub not_both : (bytes : List ℕ) (r : FrameRequest) (s : ChainRequest) → bytes ≡ request_text r → IsChainRequest s → bytes ≡ chain_request_text s → ⊥
not_both bytes r s e is f = omega (arith, ap length e, (request_head r).0, ap length f, length-chain_request_text s is)

abbrev pub is_of : (chain : List ℕ) (r : FrameRequest) → length chain ≡ 32 → IsRequest r → IsChainRequest (of_chain chain r)
is_of chain r long is = record { chain = long; first = is.first; most = is.most }

pub frames_only : (chain bytes : List ℕ) (r : FrameRequest) → length chain ≡ 32 → bytes ≡ request_text r
    → ((x : FrameRequest) → IsRequest x → bytes ≡ request_text x → Some r ≡ Some x)
    → (asked : Asked) → IsAskedIn chain bytes asked → Some (Frames r) ≡ Some asked
frames_only chain bytes r long e only (Frames x) (is, inl f) = let same = only x is f in cc
frames_only chain bytes r long e only (Frames x) (is, inr f) = absurd (not_both bytes r (of_chain chain x) e (is_of chain x long is) f)
frames_only chain bytes r long e only OtherChain (s, is, f, other) = absurd (not_both bytes r s e is f)

plain_len : (r : FrameRequest) → request_len (request_text r) ≡ 12
unfolding request_text
plain_len r = refl

named_len : (r : ChainRequest) → request_len (chain_request_text r) ≡ 44
unfolding chain_request_text
named_len r = refl

-- bytes that ask for something are one request
pub asked_whole : (chain bytes : List ℕ) (asked : Asked) → length chain ≡ 32 → IsAskedIn chain bytes asked → length bytes ≡ request_len bytes
asked_whole chain bytes (Frames r) long (is, inl e) =
    ap (λ (t : List ℕ). length t) e ∙ (request_head r).0 ∙ sym (ap (λ (t : List ℕ). request_len t) e ∙ plain_len r)
asked_whole chain bytes (Frames r) long (is, inr e) =
    let s = of_chain chain r in
    ap (λ (t : List ℕ). length t) e ∙ length-chain_request_text s (is_of chain r long is) ∙ sym (ap (λ (t : List ℕ). request_len t) e ∙ named_len s)
asked_whole chain bytes OtherChain long (s, is, e, other) =
    ap (λ (t : List ℕ). length t) e ∙ length-chain_request_text s is ∙ sym (ap (λ (t : List ℕ). request_len t) e ∙ named_len s)

-- .. whatever stands behind it
pub asked_first : (chain bytes left : List ℕ) (asked : Asked) → length chain ≡ 32 → IsAskedIn chain bytes asked → first_request (bytes ++ left) ≡ bytes
asked_first chain bytes left asked long is =
    let whole = asked_whole chain bytes asked long is in
    whole_stays bytes left (omega (arith, whole)) ∙ first_of_short bytes (omega (arith, whole))
