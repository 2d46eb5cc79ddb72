-- What is written to a stream, by what it sends.
use Rattle.std.proofs.Common.{◌≡◌, ◌++◌, ◌∙◌, ℕ, Bool, true, false, List, [], Option, None, Some, length, take, drop, refl, sym, ap, arith, nat_eq}
use Rattle.std.specs.Prelude.{codes, is_some, IsTrue, if◌then◌else◌}
use Rattle.std.specs.List.{starts_with}
use Rattle.std.specs.Io.KnownBytes.{Appends}
use Rattle.std.proofs.lemmas.List.{drop_at, take_all}
use Rattle.std.proofs.lemmas.Bool.Decides.{Decides-eqb}
use Rattle.std.proofs.lemmas.Slice.Eq.{starts_is}
use Rattle.byteorder.specs.Endian.{big_bytes}
use Rattle.log_format.specs.Requests.{request_text}
use Rattle.log_format.specs.declared.request.FrameRequest.{FrameRequest}
use Rattle.log_request.specs.ChainRequests.{chain_request_text, of_chain}
use Rattle.log_request.specs.declared.stream.Connection.{Connection}
use Rattle.log_request.specs.Naming.{unnamed, unnamed_of, written_to}

-- the two numbers
abbrev numbers_of : FrameRequest → List ℕ
numbers_of r = big_bytes 4 r.first ++ big_bytes 4 r.most

-- the magic, the chain and the numbers
abbrev text_of : List ℕ → FrameRequest → List ℕ
text_of chain r = codes "HSL2" ++ (chain ++ numbers_of r)

abbrev head_of : List ℕ → List ℕ
head_of chain = codes "HSL2" ++ chain

begins : (chain : List ℕ) (r : FrameRequest) → starts_with nat_eq (text_of chain r) (head_of chain) ≡ true
begins chain r = (starts_is Decides-eqb (text_of chain r) (head_of chain) _ refl).1 (numbers_of r) refl

numbers_stand : (chain : List ℕ) (r : FrameRequest) → length chain ≡ 32 → drop 36 (text_of chain r) ≡ numbers_of r
numbers_stand chain r long = drop_at chain (numbers_of r) 32 long

chosen : (b : Bool) (x y : List ℕ) → b ≡ true → x ≡ y → (if b then Some x else None) ≡ Some y
chosen true x y is same = ap (λ (t : List ℕ). Some t) same
chosen false x y is same = let no : false ≡ true = is in cc

-- the 44 bytes stand for the 12
pub named_back : (chain : List ℕ) (r : FrameRequest) → length chain ≡ 32 → unnamed chain (chain_request_text (of_chain chain r)) ≡ Some (request_text r)
unfolding chain_request_text request_text
named_back chain r long = chosen _ _ _ (begins chain r) (ap (λ (t : List ℕ). codes "HSL1" ++ t) (numbers_stand chain r long))

whole_appends : (known : Option (List ℕ)) (text bytes : List ℕ) → known ≡ Some text → bytes ≡ text → Appends (Some []) known (take (length bytes) bytes)
whole_appends None text bytes is same = let no : None ≡ Some text = is in cc
whole_appends (Some found) text bytes is same = let one : found ≡ text = cc in one ∙ sym same ∙ sym (take_all (length bytes) bytes (omega arith))

-- so a request that was sent by the chain's name is what was written
pub sent : {S : Type 0} (tells : Bool) (contents : S → Option (List ℕ)) (chain : List ℕ) (o : Connection S) (r : FrameRequest) (bytes : List ℕ)
    → length chain ≡ 32 → bytes ≡ request_text r → (IsTrue tells → contents o.stream ≡ Some (chain_request_text (of_chain chain r)))
    → Appends (written_to tells contents chain None) (written_to tells contents chain (Some o)) (take (length bytes) bytes)
sent false contents chain o r bytes long is told = tt
sent true contents chain o r bytes long is told =
    whole_appends (unnamed_of chain (contents o.stream)) (request_text r) bytes (ap (λ (known : Option (List ℕ)). unnamed_of chain known) (told refl) ∙ named_back chain r long) is

pub none_of : {X : Type 0} (o : Option X) → is_some o ≡ false → o ≡ None
none_of None is = refl
none_of (Some x) is = let no : true ≡ false = is in cc
