-- Clauses on what a disk tells.
use Rattle.std.proofs.Common.{◌≡◌, Option, Some, None, IfSome, refl, subst, sym, Result, Ok, Err, OnOk, OnErr, true, false, option_map, MatchOption, IfOk, IfErr}
use Rattle.std.proofs.lemmas.Bool.{false≢true}
use Rattle.std.specs.Result.{is_err}

pub some_if : {X : Type 0} (o : Option X) (P : X → Type 0) → ((x : X) → o ≡ Some x → P x) → IfSome o P
some_if None P all = tt
some_if (Some x) P all = all x refl

pub if_some : {X : Type 0} (o : Option X) (P : X → Type 0) (x : X) → IfSome o P → o ≡ Some x → P x
if_some {X = X} o P x holds is = let at : IfSome (Some x) P = subst (λ (v : Option X). IfSome v P) is holds in at

pub ok_holds : {T E : Type 0} (r : Result T E) (P : Type 0) → is_err r ≡ false → OnOk r P → P
ok_holds (Ok x) P e h = h
ok_holds (Err x) P e h = absurd (false≢true (sym e))

pub err_holds : {T E : Type 0} (r : Result T E) (P : Type 0) → is_err r ≡ true → OnErr r P → P
err_holds (Ok x) P e h = absurd (false≢true e)
err_holds (Err x) P e h = h

pub mapped_some : {X Y : Type 0} (f : X → Y) (o : Option X) (y : Y) → option_map f o ≡ Some y → (x : X) × (o ≡ Some x) × (y ≡ f x)
mapped_some f None y is = absurd (cc is)
mapped_some f (Some x) y is = let same : y ≡ f x = cc is in (x, refl, same)

pub match_some : {X : Type 0} (o : Option X) (P : Type 0) (Q : X → Type 0) (x : X) → MatchOption o P Q → o ≡ Some x → Q x
match_some {X = X} o P Q x holds is = let at : MatchOption (Some x) P Q = subst (λ (v : Option X). MatchOption v P Q) is holds in at

pub match_none : {X : Type 0} (o : Option X) (P : Type 0) (Q : X → Type 0) → MatchOption o P Q → o ≡ None → P
match_none {X = X} o P Q holds is = let at : MatchOption None P Q = subst (λ (v : Option X). MatchOption v P Q) is holds in at

pub ok_maps : {T E : Type 0} (r : Result T E) (P Q : T → Type 0) → IfOk r P → ((x : T) → P x → Q x) → IfOk r Q
ok_maps (Ok x) P Q h by = by x h
ok_maps (Err e) P Q h by = tt

pub err_maps : {T E : Type 0} (r : Result T E) (P Q : E → Type 0) → IfErr r P → ((x : E) → P x → Q x) → IfErr r Q
err_maps (Ok x) P Q h by = tt
err_maps (Err e) P Q h by = by e h

pub ok_both : {T E : Type 0} (r : Result T E) (P Q R : T → Type 0) → IfOk r P → IfOk r Q → ((x : T) → P x → Q x → R x) → IfOk r R
ok_both (Ok x) P Q R p q by = by x p q
ok_both (Err e) P Q R p q by = tt
