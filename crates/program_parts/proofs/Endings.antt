-- How a program ends.
use Rattle.std.proofs.Common.{◌≡◌, ◌≢◌, ℕ, Result, Ok, Err, IfErr, IfOk, inl, inr, ◌⊎◌, sym, ◌∙◌, subst}
use Rattle.std.specs.Result.{IsErrAnd}

-- a status other than 2 is what the work came to
pub came_to : {F : Type 0} (outcome : Result ℕ F) (status : ℕ) (left : Type 0) (line : F → Type 0) (P : ℕ → Type 0)
    → IfOk outcome (λ s. (status ≡ s) × left) → IfErr outcome (λ f. (status ≡ 2) × line f) → IfOk outcome P → status ≢ 2 → P status × left
came_to (Ok s) status left line P done told is not = (subst P (sym done.0) is, done.1)
came_to (Err f) status left line P done told is not = absurd (not told.0)

-- status 2 is a fault
pub gave_up : {F : Type 0} (outcome : Result ℕ F) (status : ℕ) (left : Type 0) (line : F → Type 0) (P : ℕ → Type 0) (Q : F → Type 0)
    → IfOk outcome (λ s. (status ≡ s) × left) → IfErr outcome (λ f. (status ≡ 2) × line f) → IfOk outcome P → ((s : ℕ) → P s → s ≢ 2) → IfErr outcome Q
    → status ≡ 2 → (f : F) × Q f × line f
gave_up (Ok s) status left line P Q done told is other why two = absurd (other s is (sym done.0 ∙ two))
gave_up (Err f) status left line P Q done told is other why two = (f, why, told.1)

-- what is no work done is a fault
pub must_give_up : {F : Type 0} (outcome : Result ℕ F) (status : ℕ) (left : Type 0) (line : F → Type 0) (P : ℕ → Type 0) (Q : F → Type 0)
    → IfOk outcome (λ s. (status ≡ s) × left) → IfErr outcome (λ f. (status ≡ 2) × line f) → IfOk outcome P → ((s : ℕ) → P s → ⊥) → IfErr outcome Q
    → (status ≡ 2) × ((f : F) × Q f × line f)
must_give_up (Ok s) status left line P Q done told is other why = absurd (other s is)
must_give_up (Err f) status left line P Q done told is other why = (told.0, (f, why, told.1))

-- the status is that of the work, or 2
pub ends : {F : Type 0} (outcome : Result ℕ F) (status : ℕ) (left : Type 0) (line : F → Type 0) (P : ℕ → Type 0)
    → IfOk outcome (λ s. (status ≡ s) × left) → IfErr outcome (λ f. (status ≡ 2) × line f) → IfOk outcome P → P status ⊎ (status ≡ 2)
ends (Ok s) status left line P done told is = inl (subst P (sym done.0) is)
ends (Err f) status left line P done told is = inr told.0

pub handed_on : {A E : Type 0} (r : Result A E) (P : E → Type 0) (e : E) → IsErrAnd r (λ x. x ≡ e) → P e → IfErr r P
handed_on (Err x) P e is p = subst P (sym is) p
handed_on (Ok a) P e is p = tt

pub whatever_ok : {A E : Type 0} (r : Result A E) (P : A → Type 0) → ((x : A) → P x) → IfOk r P
whatever_ok (Ok x) P all = all x
whatever_ok (Err e) P all = tt
