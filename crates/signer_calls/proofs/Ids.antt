-- Ids as they are printed.
use Rattle.std.proofs.Common.{◌≡◌, ◌∙◌, ℕ, List, Result, Ok, Err, IsOk, ap, subst, sym}
use Rattle.std.specs.Prelude.{MatchResult}
use Rattle.hex.specs.Hex.{IsBytes, decode_sized, encode_lower}
use Rattle.hex.specs.declared.error.FromHexError.{FromHexError}
use Rattle.hex.proofs.HexLemmas.{decode_of-ok, decode_sized-encode_lower, decode_sized-ok, decode_sized-twice}
use Rattle.signer_calls.specs.Places.{IsId}

-- two ids of the same digits are one
pub one_spelled : (i j : List ℕ) → IsId i → IsId j → encode_lower i ≡ encode_lower j → i ≡ j
one_spelled i j is_i is_j same =
    let read = decode_sized-encode_lower i 32 is_i.0 is_i.1 in
    let read' = decode_sized-encode_lower j 32 is_j.0 is_j.1 in
    let both : Ok i ≡ Ok j = sym read ∙ ap (λ (d : List ℕ). decode_sized d 32) same ∙ read' in
    cc both

-- an id is read again from its digits
pub id_again : (digits id out : List ℕ) (result : Result (Unit {0}) FromHexError) → IsId id → digits ≡ encode_lower id
    → MatchResult (decode_sized digits 32) (λ bytes. (result ≡ Ok tt) × (out ≡ bytes)) (λ e. result ≡ Err e)
    → (result ≡ Ok tt) × (out ≡ id)
id_again digits id out result is_id printed read =
    subst (λ (d : Result (List ℕ) FromHexError). MatchResult d (λ bytes. (result ≡ Ok tt) × (out ≡ bytes)) (λ e. result ≡ Err e))
    (ap (λ (text : List ℕ). decode_sized text 32) printed ∙ decode_sized-encode_lower id 32 is_id.0 is_id.1) read

-- what is read of digits is bytes
read_bytes : (digits bytes : List ℕ) → decode_sized digits 32 ≡ Ok bytes → IsBytes bytes
read_bytes digits bytes read =
    let twice = decode_sized-twice digits 32 (decode_sized-ok digits 32 bytes read) in
    (decode_of-ok digits bytes (sym twice ∙ read)).3

pub bytes_read : (digits out : List ℕ) (of : Result (List ℕ) FromHexError) (result : Result (Unit {0}) FromHexError) → of ≡ decode_sized digits 32 → IsOk result
    → MatchResult of (λ bytes. (result ≡ Ok tt) × (out ≡ bytes)) (λ e. result ≡ Err e) → IsBytes out
bytes_read digits out (Ok bytes) result is ok read = subst (λ (b : List ℕ). IsBytes b) (sym read.1) (read_bytes digits bytes (sym is))
bytes_read digits out (Err e) result is ok read = let never = subst (λ (r : Result (Unit {0}) FromHexError). IsOk r) read ok in absurd (cc never)
