-- Pieces that are written one after the other.
use Rattle.std.proofs.Common.{◌≡◌, ◌+◌, ℕ, List, [], ◌++◌, Option, Some, None, sym, ap, ◌∙◌, subst, append_assoc, take, drop}
use Rattle.std.proofs.lemmas.List.{append-nil}
use Rattle.std.proofs.Math.Seq.{take-add}
use Rattle.base_streams.specs.Streams.{Wrote, WrotePart}

-- nothing was written yet
pub wrote_nothing : (before : Option (List ℕ)) → Wrote before before []
wrote_nothing None = tt
wrote_nothing (Some text) = ap (λ (t : List ℕ). Some t) (sym (append-nil text))

-- two pieces are one
pub wrote_both : (before mid after : Option (List ℕ)) (first second : List ℕ) → Wrote before mid first → Wrote mid after second
    → Wrote before after (first ++ second)
wrote_both None mid after first second a b = tt
wrote_both (Some text) mid after first second a b =
    let told : after ≡ Some ((text ++ first) ++ second) = subst (λ (m : Option (List ℕ)). Wrote m after second) a b in
    told ∙ ap (λ (t : List ℕ). Some t) (append_assoc text first second)

pub wrote_more : (before mid after : Option (List ℕ)) (bytes : List ℕ) (k n : ℕ) → Wrote before mid (take k bytes) → Wrote mid after (take n (drop k bytes)) → Wrote before after (take (k + n) bytes)
wrote_more before mid after bytes k n a b =
    subst (λ (t : List ℕ). Wrote before after t) (sym (take-add k n bytes))
    (wrote_both before mid after (take k bytes) (take n (drop k bytes)) a b)

-- a first part was written
pub wrote_part : (before after : Option (List ℕ)) (bytes : List ℕ) (n : ℕ) → Wrote before after (take n bytes) → WrotePart before after bytes
wrote_part None after bytes n w = tt
wrote_part (Some text) after bytes n w = (n, w)
