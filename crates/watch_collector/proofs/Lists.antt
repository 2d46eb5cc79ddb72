-- Lists beside one another.
use Rattle.std.proofs.Common.{◌≡◌, ◌<◌, ℕ, zero, suc, List, [], ◌∷◌, length, get_or, subst, arith}
use Rattle.std.specs.List.{AllZip, Contains}
use Rattle.certificates.specs.declared.vote.SignedVote.{SignedVote}

pub zip_at : {A B : Type 0} (R : A → B → Type 0) (xs : List A) (ys : List B) (i : ℕ) (d : A) (e : B) → AllZip R xs ys → i < length ys → R (get_or xs i d) (get_or ys i e)
zip_at R [] [] i d e zip l = absurd (omega arith)
zip_at R [] (y ∷ ys) i d e zip l = absurd zip
zip_at R (x ∷ xs) [] i d e zip l = absurd zip
zip_at R (x ∷ xs) (y ∷ ys) zero d e zip l = zip.0
zip_at R (x ∷ xs) (y ∷ ys) (suc i) d e zip l = zip_at R xs ys i d e zip.1 (omega arith)

pub no_votes : (vs : List SignedVote) (v : SignedVote) → vs ≡ [] → Contains vs v → ⊥
no_votes vs v none c = let i = subst (λ (ws : List SignedVote). Contains ws v) none c in let l = i.1 in absurd (omega arith)
