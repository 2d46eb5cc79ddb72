use Rattle.std.proofs.Common.{◌≡◌, ◌∙◌, List, ℕ, Some, None, subst, refl}
use Rattle.std.specs.Prelude.{slice_get}
use Rattle.std.proofs.lemmas.Option.{slice_get_past, slice_get_read}
use Rattle.std.proofs.lemmas.Bool.{false≢true}
use Rattle.log_reading.proofs.Digests.{same_frame}
use Rattle.log_reading.proofs.kept_log.KeptLog.has_at.Goals as goal

pub returns-in-Some : goal.returns-in-Some
returns-in-Some c =
    let log : c.deref.result.now ≡ c.args.self.now = c.deref.ensures.value ∙ c.self.view_is in
    let look = c.in-Some.ensures.lookup in
    let found : slice_get c.args.self.now c.args.place ≡ Some c.in-Some.found.now =
    subst (λ (l : List (List ℕ)). slice_get l c.args.place ≡ Some c.in-Some.found.now) log
    (slice_get_read c.deref.result.now _ c.args.place c.in-Some.found.now refl look.3.0 look.1) in
    same_frame _ c.in-Some.found.now c.args.digest.now c.eq.result found c.eq.ensures

pub returns-in-None : goal.returns-in-None
returns-in-None c =
    let log : c.deref.result.now ≡ c.args.self.now = c.deref.ensures.value ∙ c.self.view_is in
    let none : slice_get c.args.self.now c.args.place ≡ None =
    subst (λ (l : List (List ℕ)). slice_get l c.args.place ≡ None) log (slice_get_past c.deref.result.now c.args.place c.in-None.ensures.lookup.3) in
    (λ t. absurd (false≢true t), λ e. cc)
