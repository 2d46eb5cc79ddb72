-- A light proof that is read part by part.
use Rattle.std.proofs.Common.{◌≡◌, ◌≢◌, ◌⊎◌, ℕ, ◌+◌, ◌*◌, ◌<◌, ◌≤◌, List, [], ◌∷◌, ◌++◌, length, Result, Ok, Err, Some, None, sym, ap, subst, ◌∙◌, inl, inr, arith}
use Rattle.std.specs.Prelude.{IfErr, IsErrAnd}
use Rattle.std.specs.List.{All}
use Rattle.base_wire.specs.Refusals.{first_of}
use Rattle.base_wire.proofs.Firsts.{first_at}
use Rattle.blocks.specs.Headers.{Header, IsHeader}
use Rattle.blocks.specs.HeaderReading.{header_at}
use Rattle.certificates.specs.Certificates.{Certificate, IsCertificate}
use Rattle.handover_light.specs.LightProofs.{LightProof, IsLightProof}
use Rattle.handover_light.specs.LightProofReading.{IsMeasured, bad_header, certificate_of_place, first_place, header_piece, headers_in, light_proof_in, of_parts, second_place, third_place}
use Rattle.handover_light.specs.Places.{ArePlaces}
use Rattle.handover_light.specs.declared.format.Places.{Places}
use Rattle.handover_light.specs.declared.format.LightProofFormRefusal.{LightProofFormRefusal}
use Rattle.handover_light.specs.declared.format.LightProofFormRefusal.TheVariants.{Memory}
use Rattle.handover_light.proofs.Headers.{headers_more, length-headers_in}
use Rattle.handover_light.proofs.Wholes.{bad_header_refuses, first_is, past_headers}

-- a certificate, or why it is none
abbrev pub Answer : Type 0
Answer = Result Certificate LightProofFormRefusal

abbrev pub read : Certificate → Answer
read c = Ok c

abbrev pub refused : LightProofFormRefusal → Answer
refused e = Err e

-- what is answered of certificate c from a place to another, unless memory is refused
abbrev pub Tells : List ℕ → ℕ → ℕ → ℕ → Answer → Type 0
Tells bytes c from to a = a ≢ refused Memory → a ≡ certificate_of_place bytes c from to

-- an error that is passed on
pub err_is : {A E : Type 0} (r : Result A E) (e : E) → IsErrAnd r (λ x. x ≡ e) → r ≡ Err e
err_is (Err x) e is = ap (λ y. Err y) is
err_is (Ok a) e is = absurd is

-- ---- the headers

-- one more header is read
pub next_read : (bytes : List ℕ) (hs new : List Header) (k : ℕ) (h : Header) → hs ≡ headers_in bytes k → h ≡ header_at (header_piece bytes k) → new ≡ hs ++ h ∷ []
    → new ≡ headers_in bytes (k + 1)
next_read bytes hs new k h so_far here one =
    one ∙ ap (λ (xs : List Header). xs ++ h ∷ []) so_far ∙ ap (λ (x : Header). headers_in bytes k ++ x ∷ []) here ∙ sym (headers_more bytes k)

-- or refused, and so is the first that is
pub refused_here : {A : Type 0} (bytes : List ℕ) (k count : ℕ) (e : LightProofFormRefusal) (r : Result A LightProofFormRefusal)
    → first_of (bad_header bytes) k ≡ None → k < count → bad_header bytes k ≡ Some e → IsErrAnd r (λ x. x ≡ e)
    → IfErr r (λ x. (x ≡ Memory) ⊎ (first_of (bad_header bytes) count ≡ Some x))
refused_here {A} bytes k count e r good below bad is =
    subst (λ (s : Result A LightProofFormRefusal). IfErr s (λ x. (x ≡ Memory) ⊎ (first_of (bad_header bytes) count ≡ Some x))) (sym (err_is r e is))
    (inr (first_at (bad_header bytes) count k e good bad below))

pub room_for_headers : (bytes : List ℕ) (p : Places) → ArePlaces bytes p → 8 + 84 * p.count ≤ length bytes
room_for_headers bytes p are =
    let count = are.count in
    let first = are.first in
    let a = are.first_room in
    let b = are.second_room in
    let c = are.third_room in
    omega (arith, first_is bytes)

pub headers_refused : (bytes : List ℕ) (p : Places) (e : LightProofFormRefusal) (r : Result LightProof LightProofFormRefusal) → IsMeasured bytes → ArePlaces bytes p
    → (e ≡ Memory) ⊎ (first_of (bad_header bytes) p.count ≡ Some e) → r ≡ Err e → r ≢ Err Memory → r ≡ light_proof_in bytes
headers_refused bytes p e r m are why is other =
    elim why [
      | inl memory ↦ absurd (other (cc (is, memory)))
      | inr bad ↦ is ∙ sym (bad_header_refuses bytes e m (ap (first_of (bad_header bytes)) (sym are.count) ∙ bad))
    ]

-- ---- the certificates behind them

-- what was read before them
pub record WereRead (bytes : List ℕ) (p : Places) (hs : List Header) : Type 0 where
  pub measured : IsMeasured bytes
  pub places : ArePlaces bytes p
  pub headers : hs ≡ headers_in bytes p.count
  pub good : first_of (bad_header bytes) p.count ≡ None

abbrev parts_from : List ℕ → List Header → ℕ → ℕ → ℕ → Result LightProof LightProofFormRefusal
parts_from bytes hs a b c = of_parts hs (certificate_of_place bytes 0 a b) (certificate_of_place bytes 1 b c) (certificate_of_place bytes 2 c (length bytes))

parts_are : (bytes : List ℕ) (p : Places) (hs : List Header) → WereRead bytes p hs → light_proof_in bytes ≡ parts_from bytes hs p.first p.second p.third
parts_are bytes p hs w =
    let count = w.places.count in
    past_headers bytes w.measured (ap (first_of (bad_header bytes)) (sym count) ∙ w.good)
    ∙ ap (λ (xs : List Header). parts_from bytes xs (first_place bytes) (second_place bytes) (third_place bytes)) (ap (headers_in bytes) (sym count) ∙ sym w.headers)
    ∙ ap (λ (n : ℕ). parts_from bytes hs n (second_place bytes) (third_place bytes)) (sym w.places.first)
    ∙ ap (λ (n : ℕ). parts_from bytes hs p.first n (third_place bytes)) (sym w.places.second)
    ∙ ap (λ (n : ℕ). parts_from bytes hs p.first p.second n) (sym w.places.third)

-- a refusal of a certificate that is not of memory
not_memory : (e : LightProofFormRefusal) (r : Result LightProof LightProofFormRefusal) → r ≡ Err e → r ≢ Err Memory → refused e ≢ refused Memory
not_memory e r is other h = other (let same : e ≡ Memory = cc in is ∙ ap (λ (x : LightProofFormRefusal). Err x) same)

told : (bytes : List ℕ) (c from to : ℕ) (x : Certificate) → Tells bytes c from to (read x) → certificate_of_place bytes c from to ≡ read x
told bytes c from to x tells = sym (tells (λ h. cc))

pub first_refused : (bytes : List ℕ) (p : Places) (hs : List Header) (e : LightProofFormRefusal) (r : Result LightProof LightProofFormRefusal) → WereRead bytes p hs
    → Tells bytes 0 p.first p.second (refused e) → r ≡ Err e → r ≢ Err Memory → r ≡ light_proof_in bytes
first_refused bytes p hs e r w tells is other =
    is ∙ sym (parts_are bytes p hs w
    ∙ ap (λ (a : Answer). of_parts hs a (certificate_of_place bytes 1 p.second p.third) (certificate_of_place bytes 2 p.third (length bytes))) (sym (tells (not_memory e r is other))))

pub second_refused : (bytes : List ℕ) (p : Places) (hs : List Header) (x : Certificate) (e : LightProofFormRefusal) (r : Result LightProof LightProofFormRefusal) → WereRead bytes p hs
    → Tells bytes 0 p.first p.second (read x) → Tells bytes 1 p.second p.third (refused e) → r ≡ Err e → r ≢ Err Memory → r ≡ light_proof_in bytes
second_refused bytes p hs x e r w first tells is other =
    is ∙ sym (parts_are bytes p hs w
    ∙ ap (λ (a : Answer). of_parts hs a (certificate_of_place bytes 1 p.second p.third) (certificate_of_place bytes 2 p.third (length bytes))) (told bytes 0 p.first p.second x first)
    ∙ ap (λ (a : Answer). of_parts hs (read x) a (certificate_of_place bytes 2 p.third (length bytes))) (sym (tells (not_memory e r is other))))

pub third_refused : (bytes : List ℕ) (p : Places) (hs : List Header) (x y : Certificate) (e : LightProofFormRefusal) (r : Result LightProof LightProofFormRefusal) → WereRead bytes p hs
    → Tells bytes 0 p.first p.second (read x) → Tells bytes 1 p.second p.third (read y) → Tells bytes 2 p.third (length bytes) (refused e) → r ≡ Err e → r ≢ Err Memory → r ≡ light_proof_in bytes
third_refused bytes p hs x y e r w first second tells is other =
    is ∙ sym (parts_are bytes p hs w
    ∙ ap (λ (a : Answer). of_parts hs a (certificate_of_place bytes 1 p.second p.third) (certificate_of_place bytes 2 p.third (length bytes))) (told bytes 0 p.first p.second x first)
    ∙ ap (λ (a : Answer). of_parts hs (read x) a (certificate_of_place bytes 2 p.third (length bytes))) (told bytes 1 p.second p.third y second)
    ∙ ap (λ (a : Answer). of_parts hs (read x) (read y) a) (sym (tells (not_memory e r is other))))

abbrev pub made : List Header → Certificate → Certificate → Certificate → Result LightProof LightProofFormRefusal
made hs a b c = Ok (record { headers = hs; committed = a; second = b; third = c })

pub all_read : (bytes : List ℕ) (p : Places) (hs : List Header) (x y z : Certificate) → WereRead bytes p hs
    → Tells bytes 0 p.first p.second (read x) → Tells bytes 1 p.second p.third (read y) → Tells bytes 2 p.third (length bytes) (read z) → made hs x y z ≡ light_proof_in bytes
all_read bytes p hs x y z w first second third =
    sym (parts_are bytes p hs w
    ∙ ap (λ (a : Answer). of_parts hs a (certificate_of_place bytes 1 p.second p.third) (certificate_of_place bytes 2 p.third (length bytes))) (told bytes 0 p.first p.second x first)
    ∙ ap (λ (a : Answer). of_parts hs (read x) a (certificate_of_place bytes 2 p.third (length bytes))) (told bytes 1 p.second p.third y second)
    ∙ ap (λ (a : Answer). of_parts hs (read x) (read y) a) (told bytes 2 p.third (length bytes) z third))

-- what was read is a light proof
pub is_light_proof : (bytes : List ℕ) (p : Places) (hs : List Header) (x y z : Certificate) → hs ≡ headers_in bytes p.count → (3 ≤ p.count) × (p.count ≤ 4097)
    → All IsHeader hs → IsCertificate x → IsCertificate y → IsCertificate z → IsLightProof (record { headers = hs; committed = x; second = y; third = z })
is_light_proof bytes p hs x y z same few each a b c =
    let count : length hs ≡ p.count = ap (λ (xs : List Header). length xs) same ∙ length-headers_in bytes p.count in
    let least = few.0 in
    let most = few.1 in
    record { least = omega arith; most = omega arith; each = each; committed = a; second = b; third = c }
