-- Boundaries of images.
use Rattle.std.proofs.Common.{◌≡◌, inl, inr, ⊎_elim, ℕ, ◌+◌, ◌≤◌, List, [], ◌∷◌, ◌++◌, Option, Some, None, IfSome, refl, sym, ◌∙◌, subst, arith}
pub use Rattle.stable_log.proofs.Told.{some_if, if_some}
use Rattle.stable_log.specs.Crash.{LeavesOnly}
use Rattle.stable_log.specs.Image.{StandsFor, IsBeforeOrAfter, LeavesList}
use Rattle.key_index_store.specs.Boundary.{reservation, reservations, IsBoundedBy, LeavesBoundary, taken_by}
use Rattle.key_index_store.proofs.Reservations.{reservations-more}

pub some_both : {X : Type 0} (o : Option X) (P Q R : X → Type 0) → IfSome o P → IfSome o Q → ((x : X) → P x → Q x → R x) → IfSome o R
some_both None P Q R p q by = tt
some_both (Some x) P Q R p q by = by x p q

pub bounded_at : (limit n : ℕ) (image : List ℕ) → taken_by n ≤ limit → StandsFor image (reservations n) → IsBoundedBy limit (taken_by n) image
bounded_at limit n image few stands = (taken_by n, record { count = n; few = few; stands = stands; taken = refl }, omega arith)

pub lower : (limit low high : ℕ) (image : List ℕ) → low ≤ high → IsBoundedBy limit high image → IsBoundedBy limit low image
lower limit low high image le (boundary, is, above) = (boundary, is, omega (arith, le, above))

-- an append of a reservation keeps the boundary
still_bounded : (limit n : ℕ) (image : List ℕ) → taken_by (n + 1) ≤ limit → IsBeforeOrAfter (reservations n) (reservation n) image → IsBoundedBy limit (taken_by n) image
still_bounded limit n image few (inl before) = bounded_at limit n image (omega (arith, few)) before
still_bounded limit n image few (inr after) =
    lower limit (taken_by n) (taken_by (n + 1)) image (omega arith) (bounded_at limit (n + 1) image few (subst (λ (l : List (List ℕ)). StandsFor image l) (sym (reservations-more n)) after))

-- and once it is done it has the new one
pub durable_bounded : (limit n : ℕ) (images : List ℕ → Type 0) (list new : List (List ℕ)) (payload : List ℕ) → taken_by (n + 1) ≤ limit → list ≡ reservations n → payload ≡ reservation n → new ≡ list ++ payload ∷ [] → LeavesList images new → LeavesBoundary images limit (taken_by (n + 1))
durable_bounded limit n images list new payload few is_list is_payload is_new leaves image left =
    let is : new ≡ reservations (n + 1) = is_new ∙ (λ i. is_list i ++ is_payload i ∷ []) ∙ sym (reservations-more n) in
    bounded_at limit (n + 1) image few (subst (λ (l : List (List ℕ)). StandsFor image l) is (leaves image left))

module _ {D : Type 0} (moment : D → ℕ) (images_since : D → ℕ → List ℕ → Type 0) (old new : D) where
  -- so is each moment of it
  pub run_bounded : (limit n : ℕ) (list : List (List ℕ)) (payload : List ℕ) → taken_by (n + 1) ≤ limit → list ≡ reservations n → payload ≡ reservation n → LeavesOnly moment images_since old new (IsBeforeOrAfter list payload)
      → LeavesOnly moment images_since old new (IsBoundedBy limit (taken_by n))
  run_bounded limit n list payload few is_list is_payload run =
      let by : (image : List ℕ) → IsBeforeOrAfter list payload image → IsBoundedBy limit (taken_by n) image =
      λ image left. still_bounded limit n image few (subst (λ (p : List ℕ). IsBeforeOrAfter (reservations n) p image) is_payload (subst (λ (l : List (List ℕ)). IsBeforeOrAfter l payload image) is_list left)) in
      record {
        later = run.later;
        each = λ image left. by image (run.each image left);
        before = λ t image le left. ⊎_elim (λ o. inl o) (λ p. inr (by image p)) (run.before t image le left);
      }

  -- and what a crash may leave now
  pub now_bounded : (images : List ℕ → Type 0) (limit n : ℕ) → ((t : ℕ) (image : List ℕ) → t ≤ moment new → images image → images_since new t image) → LeavesOnly moment images_since old new (IsBoundedBy limit n) → LeavesBoundary images limit n
  now_bounded images limit n counts_now run image left = run.each image (counts_now (moment old) image run.later left)

pub some_lower : {X : Type 0} (o : Option X) (images : List ℕ → Type 0) (limit low high : ℕ) → low ≤ high → IfSome o (λ _. LeavesBoundary images limit high) → IfSome o (λ _. LeavesBoundary images limit low)
some_lower None images limit low high le bounded = tt
some_lower (Some x) images limit low high le bounded = λ image left. lower limit low high image le (bounded image left)
