-- Tests that were passed.
use Rattle.std.proofs.Common.{◌≡◌, Bool, true, false, Result, Ok, Err, Option, Some, None, refl, sym}
use Rattle.std.specs.Prelude.{IfOk}
use Rattle.base_wire.specs.Refusals.{need, unless}

pub need_ok : {A R : Type 0} (b : Bool) (r : R) (next : Result A R) (x : A) → need b r next ≡ Ok x → (b ≡ true) × (next ≡ Ok x)
need_ok true r next x e = (refl, e)
need_ok false r next x e = absurd cc

pub need_true : {A R : Type 0} (b : Bool) (r : R) (next to : Result A R) → b ≡ true → next ≡ to → need b r next ≡ to
need_true true r next to e f = f
need_true false r next to e f = absurd cc

abbrev done : {A R : Type 0} → A → Result A R
done x = Ok x

pub ok_is : {A R : Type 0} (x y : A) → done {R = R} x ≡ done y → x ≡ y
ok_is x y e = cc

-- what holds of all that reading gives holds of the result
pub if_ok : {A R : Type 0} (r s : Result A R) (P : A → Type 0) → r ≡ s → ((x : A) → s ≡ Ok x → P x) → IfOk r P
if_ok (Ok x) s P e f = f x (sym e)
if_ok (Err r) s P e f = tt

pub unless_ok : {A R : Type 0} (o : Option R) (next : Result A R) (x : A) → unless o next ≡ Ok x → (o ≡ None) × (next ≡ Ok x)
unless_ok None next x e = (refl, e)
unless_ok (Some r) next x e = absurd cc
