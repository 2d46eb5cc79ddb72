-- Requests for a piece of a step, as they are read.
use Rattle.std.proofs.Common.{◌≡◌, ◌≤◌, ◌+◌, ◌-◌, ◌∷◌, [], ℕ, List, ◌++◌, append_assoc, length, take, drop, min, refl, sym, ap, ◌∙◌, arith, slice_index_or, inl, inr}
use Rattle.std.specs.Prelude.{codes}
use Rattle.std.proofs.Math.Seq.{get_or-append_seam, take-append-add}
use Rattle.std.proofs.lemmas.Bool.{cases_lt}
use Rattle.std.proofs.lemmas.List.{take_at, take_all, drop_all, drop_more, length-append, length-take-le}
use Rattle.base_wire.specs.Pieces.{piece}
use Rattle.base_wire.proofs.Numbers.{taken, length-piece}
use Rattle.log_request.specs.StepRequests.{IsStepRequest, piece_number, step_request_text}
use Rattle.log_request.specs.declared.step.StepPiece.{StepPiece}
use Rattle.log_request.specs.declared.step.StepRequest.{StepRequest}

abbrev made : List ℕ → StepPiece → StepRequest
made chain p = record { chain = chain; piece = p }

alike : (c d : List ℕ) (p q : StepPiece) → c ≡ d → p ≡ q → made c p ≡ made d q
alike c d p q e f = cc

-- bytes with such a length, magic and number spell the request of their chain
pub step_found : (bytes chain : List ℕ) (p : StepPiece) → length bytes ≡ 37 → take 4 bytes ≡ codes "HSL3" → chain ≡ piece 32 bytes 4
    → slice_index_or bytes 36 0 ≡ piece_number p → IsStepRequest (made chain p) × (bytes ≡ step_request_text (made chain p))
unfolding step_request_text
step_found bytes chain p long magic is number =
    let size : length chain ≡ 32 = ap length is ∙ length-piece 32 bytes 4 (omega (arith, long)) in
    let last : drop 36 bytes ≡ piece_number p ∷ [] =
    drop_more bytes 36 0 (omega (arith, long)) ∙ ap (λ (t : List ℕ). slice_index_or bytes 36 0 ∷ t) (drop_all 37 bytes (omega (arith, long))) ∙ ap (λ (n : ℕ). n ∷ []) number in
    (record { chain = size }, taken bytes 0 4 (codes "HSL3") _ magic (taken bytes 4 32 _ _ (sym is) last))

-- such a request has 37 bytes
pub length-step_request_text : (r : StepRequest) → IsStepRequest r → length (step_request_text r) ≡ 37
unfolding step_request_text
length-step_request_text r is = omega (arith, length-append r.chain (piece_number r.piece ∷ []), is.chain)

-- .. begins with the magic
pub magic_stands : (r : StepRequest) → take 4 (step_request_text r) ≡ codes "HSL3"
unfolding step_request_text
magic_stands r = refl

-- .. and its chain and its number stand at their places
pub chain_stands : (r : StepRequest) → IsStepRequest r → piece 32 (step_request_text r) 4 ≡ r.chain
unfolding step_request_text
chain_stands r is = take_at r.chain (piece_number r.piece ∷ []) 32 is.chain

pub number_stands : (r : StepRequest) → IsStepRequest r → slice_index_or (step_request_text r) 36 0 ≡ piece_number r.piece
unfolding step_request_text
number_stands r is =
    let at : length (codes "HSL3" ++ r.chain) ≡ 36 = omega (arith, length-append (codes "HSL3") r.chain, is.chain) in
    ap (λ (n : ℕ). slice_index_or ((codes "HSL3" ++ r.chain) ++ (piece_number r.piece ∷ [])) n 0) (sym at)
    ∙ get_or-append_seam (codes "HSL3" ++ r.chain) (piece_number r.piece) [] 0

-- the same request, of parts that were read one by one
pub request_is : (bytes chain : List ℕ) (p : StepPiece) (r : StepRequest) → IsStepRequest r → bytes ≡ step_request_text r → chain ≡ piece 32 bytes 4 → p ≡ r.piece
    → made chain p ≡ r
request_is bytes chain p r is text e f = alike _ _ _ _ (e ∙ ap (λ (t : List ℕ). piece 32 t 4) text ∙ chain_stands r is) f

-- three parts that were put one behind the other
pub three_parts : (magic chain a b c : List ℕ) (n : ℕ) → length chain ≡ 32 → length c ≡ 37 → take 4 a ≡ magic
    → take (4 + length chain) b ≡ take 4 a ++ chain → take 37 c ≡ take 36 b ++ (n ∷ []) → c ≡ magic ++ (chain ++ (n ∷ []))
three_parts magic chain a b c n long whole e f g =
    let named : take 36 b ≡ magic ++ chain = ap (λ (k : ℕ). take (4 + k) b) (sym long) ∙ f ∙ ap (λ (t : List ℕ). t ++ chain) e in
    let all : c ≡ (magic ++ chain) ++ (n ∷ []) = sym (take_all 37 c (omega (arith, whole))) ∙ g ∙ ap (λ (t : List ℕ). t ++ (n ∷ [])) named in
    all ∙ simp append_assoc

-- ---- bytes that come piece by piece

-- as many as there is room for, or all
same_front : (piece : List ℕ) (n room : ℕ) → n ≡ min (length piece) room → take n piece ≡ take room piece
same_front piece n room is =
    elim (cases_lt (length piece) room) [
      | inl few ↦ take_all n piece (omega (arith, is)) ∙ sym (take_all room piece (omega arith))
      | inr many ↦ ap (λ (k : ℕ). take k piece) (let same : n ≡ room = omega (arith, is) in same)
    ]

-- what is put behind those that came
pub came : (bytes new piece cut : List ℕ) (have n : ℕ) → length bytes ≡ 37 → have ≤ 37 → n ≡ min (length piece) (37 - have) → cut ≡ take n piece
    → take (have + length cut) new ≡ take have bytes ++ cut → take (have + n) new ≡ take 37 (take have bytes ++ piece)
came bytes new piece cut have n long within is same put =
    let size : length cut ≡ n = ap length same ∙ length-take-le n piece (omega (arith, is)) in
    let front : length (take have bytes) ≡ have = length-take-le have bytes (omega (arith, long)) in
    let split : take 37 (take have bytes ++ piece) ≡ take have bytes ++ take (37 - have) piece =
    ap (λ (k : ℕ). take k (take have bytes ++ piece)) (let sum : 37 ≡ length (take have bytes) + (37 - have) = omega (arith, front) in sum)
    ∙ take-append-add (take have bytes) piece (37 - have) in
    ap (λ (k : ℕ). take (have + k) new) (sym size) ∙ put ∙ ap (λ (t : List ℕ). take have bytes ++ t) (same ∙ same_front piece n (37 - have) is) ∙ sym split
