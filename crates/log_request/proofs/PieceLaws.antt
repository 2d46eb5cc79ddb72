-- A piece of a step behind its length.
use Rattle.std.proofs.Common.{◌≡◌, ◌≤◌, ◌∙◌, ℕ, List, Option, None, Some, IfSome, length, take, drop, ap, sym, arith}
use Rattle.std.proofs.lemmas.List.{drop_at, take-append-le}
use Rattle.std.specs.Io.KnownBytes.{Consumes}
use Rattle.byteorder.specs.Endian.{big_number}
use Rattle.base_wire.specs.Pieces.{number_at}
use Rattle.log_request.specs.Pieces.{BeginsPiece}

-- what stood there is the length, the piece, and what is left
pub fetched : (before mid after : Option (List ℕ)) (head piece : List ℕ) (n most : ℕ) → Consumes before mid head → Consumes mid after piece → length head ≡ 4
    → n ≡ number_at 4 head 0 → length piece ≡ n → n ≤ most → IfSome before (λ text. BeginsPiece most text piece)
unfolding number_at
fetched None mid after head piece n most first second long is size within = tt
fetched (Some text) None after head piece n most first second long is size within = absurd first
fetched (Some text) (Some left) None head piece n most first second long is size within = absurd second
fetched (Some text) (Some left) (Some more) head piece n most first second long is size within =
    let front : take 4 text ≡ take 4 head = ap (λ (t : List ℕ). take 4 t) first ∙ take-append-le 4 head left (omega (arith, long)) in
    record {
      within = omega (arith, size, within);
      size = ap (λ (t : List ℕ). big_number 4 t) front ∙ sym is ∙ sym size;
      more = more;
      stands = ap (λ (t : List ℕ). drop 4 t) first ∙ drop_at head left 4 long ∙ second;
    }
