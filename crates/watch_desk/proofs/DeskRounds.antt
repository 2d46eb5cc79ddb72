-- What two rounds, one after the other, tell.
use Rattle.std.proofs.Common.{◌≡◌, ◌∙◌, ◌⊎◌, ◌↔◌, inl, inr, ℕ, List, [], ◌∷◌, ◌++◌, Bool, true, false, Option, Some, None, cond, sym, ap, subst, refl}
use Rattle.std.specs.Prelude.{◌||◌, ◌&&◌, filter, not, nat_eq, is_some, IsSome}
use Rattle.std.specs.List.{Contains, list_any}
use Rattle.std.specs.Str.{bytes_eq}
use Rattle.std.proofs.lemmas.Bool.{false≢true, not-true, not_from_false}
use Rattle.std.proofs.lemmas.Bool.Decides.{Decides-eqb}
use Rattle.std.proofs.lemmas.List.Elements.{Contains-append_cases, Contains-append_left, Contains-append_right}
use Rattle.std.proofs.lemmas.Slice.Eq.{bytes_eq-Decides}
use Rattle.blocks.specs.Headers.{Header}
use Rattle.audit_evidence.specs.Evidence.{Evidence}
use Rattle.verdict_format.specs.Verdicts.{replica_in}
use Rattle.audit_commits.specs.Culprits.{IsCulprit, IsOffence}
use Rattle.culprit_search.specs.Reports.{Report}
use Rattle.culprit_search.specs.Verdicts.{AreVerdicts, parts_of}
use Rattle.culprit_search.specs.declared.report.Commit.{Commit}
use Rattle.culprit_search.specs.declared.report.Conflict.{Conflict}
use Rattle.culprit_search.proofs.Written.{accused}
use Rattle.watch_desk.specs.DeskLaws.{IsNamedIn}
use Rattle.watch_desk.specs.News.{conflict_told, is_commit, is_told, new_commits}
use Rattle.watch_desk.specs.Verdicts.{is_named, unnamed}
use Rattle.watch_desk.specs.declared.news.News.TheVariants as news
use Rattle.blocks.proofs.Members.{Has, Has-from_Contains, Contains-from_Has}

filter_step : {A : Type 0} (p : A → Bool) (x : A) (xs : List A) (y : A) → (Has (filter p xs) y → Has xs y × (p y ≡ true)) → (b : Bool) → p x ≡ b → Has (cond b (x ∷ filter p xs) (filter p xs)) y → Has (x ∷ xs) y × (p y ≡ true)
filter_step {A} p x xs y later true e (inl is) = (inl is, subst (λ (z : A). p z ≡ true) is e)
filter_step p x xs y later true e (inr m) = let w = later m in (inr w.0, w.1)
filter_step p x xs y later false e m = let w = later m in (inr w.0, w.1)

filter_has : {A : Type 0} (p : A → Bool) (xs : List A) (y : A) → Has (filter p xs) y → Has xs y × (p y ≡ true)
filter_has p [] y h = absurd h
filter_has p (x ∷ xs) y h = filter_step p x xs y (filter_has p xs y) (p x) refl h

keep_step : {A : Type 0} (p : A → Bool) (x : A) (xs : List A) (y : A) → (Has xs y → Has (filter p xs) y) → p y ≡ true → (b : Bool) → p x ≡ b → Has (x ∷ xs) y → Has (cond b (x ∷ filter p xs) (filter p xs)) y
keep_step p x xs y later passes true e (inl is) = inl is
keep_step p x xs y later passes true e (inr m) = inr (later m)
keep_step {A} p x xs y later passes false e (inl is) = absurd (false≢true (sym e ∙ subst (λ (z : A). p z ≡ true) (sym is) passes))
keep_step p x xs y later passes false e (inr m) = later m

has_filter : {A : Type 0} (p : A → Bool) (xs : List A) (y : A) → Has xs y → p y ≡ true → Has (filter p xs) y
has_filter p [] y h passes = absurd h
has_filter p (x ∷ xs) y h passes = keep_step p x xs y (λ m. has_filter p xs y m passes) passes (p x) refl h

or_true : (b : Bool) → (b || true) ≡ true
or_true true = refl
or_true false = refl

any_has : {A : Type 0} (p : A → Bool) (xs : List A) (y : A) → Has xs y → p y ≡ true → list_any p xs ≡ true
any_has p [] y h passes = absurd h
any_has {A} p (x ∷ xs) y (inl is) passes = ap (λ (b : Bool). b || list_any p xs) (subst (λ (z : A). p z ≡ true) (sym is) passes)
any_has p (x ∷ xs) y (inr m) passes = ap (λ (b : Bool). p x || b) (any_has p xs y m passes) ∙ or_true (p x)

any_step : {A : Type 0} (p : A → Bool) (x : A) (xs : List A) → (list_any p xs ≡ true → (y : A) × Has xs y × (p y ≡ true)) → (b : Bool) → p x ≡ b → (b || list_any p xs) ≡ true → (y : A) × Has (x ∷ xs) y × (p y ≡ true)
any_step p x xs later true e m = (x, inl refl, e)
any_step p x xs later false e m = let w = later m in (w.0, inr w.1, w.2)

has_any : {A : Type 0} (p : A → Bool) (xs : List A) → list_any p xs ≡ true → (y : A) × Has xs y × (p y ≡ true)
has_any p [] any = absurd (false≢true any)
has_any p (x ∷ xs) any = any_step p x xs (has_any p xs) (p x) refl any

-- ---- commits and verdicts

same_bytes : (xs : List ℕ) → bytes_eq xs xs ≡ true
same_bytes xs = (bytes_eq-Decides xs xs).1 refl

same_number : (n : ℕ) → nat_eq n n ≡ true
same_number n = (Decides-eqb n n).1 refl

is_commit_itself : (c : Commit) → is_commit c c ≡ true
is_commit_itself c = ap (λ (b : Bool). b && bytes_eq c.id c.id) (same_number c.view) ∙ same_bytes c.id

-- a verdict on a replica names it
pub named_by : (verdicts : List (List ℕ)) (v : List ℕ) (q : ℕ) → Has verdicts v → replica_in v ≡ q → is_named verdicts q ≡ true
named_by verdicts v q has is = any_has (λ (w : List ℕ). nat_eq (replica_in w) q) verdicts v has (subst (λ (n : ℕ). nat_eq (replica_in v) n ≡ true) is (same_number (replica_in v)))

pub named_has : (verdicts : List (List ℕ)) (q : ℕ) → is_named verdicts q ≡ true → (v : List ℕ) × Contains verdicts v × (replica_in v ≡ q)
named_has verdicts q named =
    let w = has_any (λ (v : List ℕ). nat_eq (replica_in v) q) verdicts named in
    (w.0, Contains-from_Has verdicts w.0 w.1, (Decides-eqb (replica_in w.0) q).0 w.2)

pub no_commit_twice : (old commits told : List Commit) (c : Commit) (more : List Commit) → told ≡ commits → Contains (new_commits old commits) c → Contains (new_commits told more) c → ⊥
no_commit_twice old commits told c more is first second =
    let was = filter_has (λ (d : Commit). not (is_told old d)) commits c (Has-from_Contains (new_commits old commits) c first) in
    let again = filter_has (λ (d : Commit). not (is_told told d)) more c (Has-from_Contains (new_commits told more) c second) in
    let has : Has told c = subst (λ (cs : List Commit). Has cs c) (sym is) was.0 in
    let there : is_told told c ≡ true = any_has (λ (o : Commit). is_commit o c) told c has (is_commit_itself c) in
    false≢true (sym (not-true (is_told told c) again.1) ∙ there)

pub no_culprit_twice : (old verdicts told more : List (List ℕ)) (v w : List ℕ) → told ≡ old ++ unnamed old verdicts → Contains (unnamed old verdicts) v → Contains (unnamed told more) w → replica_in v ≡ replica_in w → ⊥
no_culprit_twice old verdicts told more v w is first second same =
    let there : Contains told v = subst (λ (vs : List (List ℕ)). Contains vs v) (sym is) (Contains-append_right old (unnamed old verdicts) v first) in
    let again = filter_has (λ (x : List ℕ). not (is_named told (replica_in x))) more w (Has-from_Contains (unnamed told more) w second) in
    false≢true (sym (not-true (is_named told (replica_in w)) again.1) ∙ named_by told v (replica_in w) (Has-from_Contains told v there) same)

pub no_conflict_twice : (told new : Option Conflict) (c : Conflict) → told ≡ Some c → new ≡ Some c → conflict_told told new ≡ []
no_conflict_twice told new c was is =
    rw (was, is) (ap (λ (b : Bool). cond b [] (news.Conflict c ∷ [])) (ap (λ (b : Bool). b && bytes_eq c.second c.second) (same_bytes c.first) ∙ same_bytes c.second))

pub no_handover_twice : (before : Bool) (first second : Option Header) (told : Bool) → told ≡ (before || is_some first) → IsSome first → (IsSome second → told ≡ false) → IsSome second → ⊥
no_handover_twice before (Some b) second told is one once two = false≢true (sym (once two) ∙ is ∙ or_true before)
no_handover_twice before None second told is one once two = false≢true one

-- ---- whom a desk names

culprit_named : (e : Evidence) (r : Report) (old : List (List ℕ)) (q : ℕ) → AreVerdicts e r.verdicts → IsCulprit e q → (b : Bool) → is_named old q ≡ b → IsNamedIn (old ++ unnamed old r.verdicts) q
culprit_named e r old q are culprit true named =
    let w = named_has old q named in (w.0, Contains-append_left old (unnamed old r.verdicts) w.0 w.1, w.2)
culprit_named e r old q are culprit false named =
    let v = are.all q culprit in
    let on : replica_in v.0 ≡ q = accused v.0 (parts_of e q v.2.earlier v.2.later v.2.shown) v.2.spells in
    let new : not (is_named old (replica_in v.0)) ≡ true = not_from_false (is_named old (replica_in v.0)) (ap (is_named old) on ∙ named) in
    let there = Contains-from_Has (unnamed old r.verdicts) v.0 (has_filter (λ (x : List ℕ). not (is_named old (replica_in x))) r.verdicts v.0 (Has-from_Contains r.verdicts v.0 v.1) new) in
    (v.0, Contains-append_right old (unnamed old r.verdicts) v.0 there, on)

pub just_the_culprits : (e : Evidence) (r : Report) (old all : List (List ℕ)) (q : ℕ) → AreVerdicts e r.verdicts → all ≡ old ++ unnamed old r.verdicts → IsNamedIn all q ↔ (IsNamedIn old q ⊎ IsCulprit e q)
just_the_culprits e r old all q are is = (
  λ w. elim (Contains-append_cases old (unnamed old r.verdicts) w.0 (subst (λ (vs : List (List ℕ)). Contains vs w.0) is w.1)) [
    | inl was ↦ inl (w.0, was, w.2)
    | inr found ↦
        (let h = filter_has (λ (x : List ℕ). not (is_named old (replica_in x))) r.verdicts w.0 (Has-from_Contains (unnamed old r.verdicts) w.0 found) in
        let a = are.each w.0 (Contains-from_Has r.verdicts w.0 h.0) in
        inr (a.earlier, a.later, subst (λ (n : ℕ). IsOffence e n a.earlier a.later) w.2 a.named.offence))
  ],
  λ u. subst (λ (vs : List (List ℕ)). IsNamedIn vs q) (sym is) (elim u [
    | inl was ↦ (was.0, Contains-append_left old (unnamed old r.verdicts) was.0 was.1, was.2)
    | inr culprit ↦ culprit_named e r old q are culprit (is_named old q) refl
  ]),
)
