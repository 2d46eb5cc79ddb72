-- Seeds that are drawn one after the other.
use Rattle.std.proofs.Common.{◌≡◌, ◌+◌, ◌++◌, ◌∷◌, [], ◌∙◌, ℕ, zero, suc, List, arith, length, subst, sym}
use Rattle.std.specs.List.{AllZip}
use Rattle.std.proofs.lemmas.List.{length-append}
use Rattle.std.proofs.lemmas.Slice.Zip.{AllZip-long}
use Rattle.lmots.specs.declared.keys.PrivateSeed.{PrivateSeed}
use Rattle.handover_keys.specs.BoundIds.{bound_id}
use Rattle.replica_files.specs.Drawing.{IsDrawn, bound_ids}

zip_push : {X Y : Type 0} (R : X → Y → Type 0) (xs : List X) (ys : List Y) (x : X) (y : Y) → AllZip R xs ys → R x y → AllZip R (xs ++ x ∷ []) (ys ++ y ∷ [])
zip_push R [] [] x y zip one = (one, tt)
zip_push R [] (b ∷ ys) x y zip one = absurd zip
zip_push R (a ∷ xs) [] x y zip one = absurd zip
zip_push R (a ∷ xs) (b ∷ ys) x y zip one = (zip.0, zip_push R xs ys x y zip.1 one)

-- one seed more
pub drawn_more : (Draws : List ℕ → Type 0) (chain : List ℕ) (replica k : ℕ) (secrets secrets' : List PrivateSeed) (id : List ℕ) (one : PrivateSeed)
    → secrets' ≡ secrets ++ one ∷ [] → id ≡ bound_id chain replica k → AllZip (IsDrawn Draws) (bound_ids chain replica k) secrets → IsDrawn Draws id one
    → AllZip (IsDrawn Draws) (bound_ids chain replica (k + 1)) secrets'
drawn_more Draws chain replica k secrets secrets' id one pushed bound drawn next =
    let all : AllZip (IsDrawn Draws) (bound_ids chain replica (suc k)) (secrets ++ one ∷ []) =
    zip_push (IsDrawn Draws) (bound_ids chain replica k) secrets (bound_id chain replica k) one drawn (subst (λ (i : List ℕ). IsDrawn Draws i one) bound next) in
    subst (λ (xs : List PrivateSeed). AllZip (IsDrawn Draws) (bound_ids chain replica (k + 1)) xs) (sym pushed)
    (subst (λ (n : ℕ). AllZip (IsDrawn Draws) (bound_ids chain replica n) (secrets ++ one ∷ [])) (let same : suc k ≡ k + 1 = omega arith in same) all)

long : (chain : List ℕ) (replica n : ℕ) → length (bound_ids chain replica n) ≡ n
long chain replica zero = λ i. zero
long chain replica (suc n) =
    let before : length (bound_ids chain replica n) ≡ n = long chain replica n in
    let sum : length (bound_ids chain replica n) + 1 ≡ suc n = omega (arith, before) in
    length-append (bound_ids chain replica n) (bound_id chain replica n ∷ []) ∙ sum

-- as many as there are ids
pub as_many : (Draws : List ℕ → Type 0) (chain : List ℕ) (replica n : ℕ) (secrets : List PrivateSeed) → AllZip (IsDrawn Draws) (bound_ids chain replica n) secrets → length secrets ≡ n
as_many Draws chain replica n secrets drawn = AllZip-long (IsDrawn Draws) (bound_ids chain replica n) secrets drawn ∙ long chain replica n
