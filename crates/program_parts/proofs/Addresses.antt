-- A host and a port, cut at the last colon.
use Rattle.std.proofs.Common.{◌≡◌, ◌≢◌, ◌∙◌, ◌⊎◌, inl, inr, ◌<◌, ◌≤◌, ◌+◌, ◌-◌, ◌^◌, ◌++◌, ◌∷◌, ℕ, List, [], suc, take, drop, length, get_or, arith, sym, subst, ap, refl}
use Rattle.std.specs.Prelude.{decimal, slice_index_or}
use Rattle.std.specs.Str.Parse.{AllDigits}
use Rattle.std.proofs.lemmas.Fmt.{decimal_injective, decimal_is_IsNumeral}
use Rattle.std.proofs.lemmas.List.{length-append, take-append-drop, take_at, drop_at, drop_more, get_or-append-add, get_or_at, drop-drop}
use Rattle.std.proofs.lemmas.Str.Parse.{digit_at}
use Rattle.program_parts.specs.Words.{HasNoColonFrom, IsAddress, IsHost, IsLastColon, IsPort}

pub address_of : (text : List ℕ) (i : ℕ) → IsLastColon text i → IsHost (take i text) → IsPort (drop (i + 1) text) → IsAddress text
address_of text i colon host port = record {
  host = take i text;
  port = drop (i + 1) text;
  split = sym (take-append-drop i text) ∙ ap (λ (t : List ℕ). take i text ++ t) (drop_more text i 0 colon.inside ∙ ap (λ (c : ℕ). c ∷ drop (i + 1) text) colon.here);
  is_host = host;
  is_port = port;
}

-- a port has no colon
port_digit : (port : List ℕ) → IsPort port → (i : ℕ) → i < length port → get_or port i 0 ≢ 58
port_digit port p i l e =
    let d = digit_at port i (subst (AllDigits 10) (sym p.2.1) (decimal_is_IsNumeral p.0 (omega (arith, p.2.0))).0.1) l in
    omega (arith, d, e)

here_of : (address host port : List ℕ) → address ≡ host ++ 58 ∷ port → get_or address (length host) 0 ≡ 58
here_of address host port split =
    let here : length host + 0 ≡ length host = omega arith in
    ap (λ (n : ℕ). get_or address n 0) (sym here) ∙ ap (λ (t : List ℕ). get_or t (length host + 0) 0) split ∙ get_or-append-add host (58 ∷ port) 0 0

length_of : (address host port : List ℕ) → address ≡ host ++ 58 ∷ port → length address ≡ length host + 1 + length port
length_of address host port split = omega (arith, ap length split, length-append host (58 ∷ port))

behind_of : (address host port : List ℕ) → address ≡ host ++ 58 ∷ port → (i : ℕ) → get_or address (length host + suc i) 0 ≡ get_or port i 0
behind_of address host port split i = ap (λ (t : List ℕ). get_or t (length host + suc i) 0) split ∙ get_or-append-add host (58 ∷ port) (suc i) 0

-- its colon is the last one
colon_is : (address : List ℕ) (a : IsAddress address) (i : ℕ) → IsLastColon address i → i ≡ length a.host
colon_is address a i colon =
    let size = length_of address a.host a.port a.split in
    let here = here_of address a.host a.port a.split in
    let not_before : i < length a.host → ⊥ = λ l. colon.last (length a.host) (omega (arith, l)) (omega (arith, size)) here in
    let not_behind : length a.host < i → ⊥ = λ l.
    let k : length a.host + suc (i - length a.host - 1) ≡ i = omega (arith, l) in
    port_digit a.port a.is_port (i - length a.host - 1) (omega (arith, l, size, colon.inside))
    (sym (behind_of address a.host a.port a.split (i - length a.host - 1)) ∙ ap (λ (n : ℕ). get_or address n 0) k ∙ colon.here) in
    omega (arith, not_before, not_behind)

pub host_of : (address : List ℕ) (i : ℕ) → IsLastColon address i → (a : IsAddress address) → IsHost (take i address) × IsPort (drop (i + 1) address)
host_of address i colon a =
    let at = colon_is address a i colon in
    let host : take i address ≡ a.host = ap (λ (t : List ℕ). take i t) a.split ∙ take_at a.host (58 ∷ a.port) i (sym at) in
    let rest : drop i address ≡ 58 ∷ a.port = ap (λ (t : List ℕ). drop i t) a.split ∙ drop_at a.host (58 ∷ a.port) i (sym at) in
    let port : drop (i + 1) address ≡ a.port = ap (λ (n : ℕ). drop n address) (omega arith) ∙ sym (drop-drop 1 i address) ∙ ap (λ (t : List ℕ). drop 1 t) rest in
    (subst IsHost (sym host) a.is_host, subst IsPort (sym port) a.is_port)

pub no_address : (address : List ℕ) → HasNoColonFrom address 0 → IsAddress address → ⊥
no_address address none a = none (length a.host) (omega arith) (omega (arith, length_of address a.host a.port a.split)) (here_of address a.host a.port a.split)

-- another number is no port
pub no_port : (port : List ℕ) (n : ℕ) → port ≡ decimal n → n < 2 ^ 64 → (n < 1) ⊎ (65535 < n) → IsPort port → ⊥
no_port port n is fits (inl less) p = let same = decimal_injective p.0 n (omega (arith, p.2.0)) fits (sym p.2.1 ∙ is) in omega (arith, same, less, p.1)
no_port port n is fits (inr more) p = let same = decimal_injective p.0 n (omega (arith, p.2.0)) fits (sym p.2.1 ∙ is) in omega (arith, same, more, p.2.0)
