use Rattle.std.proofs.Common.{◌≡◌, ◌∙◌, ◌++◌, ◌∷◌, ◌≤◌, List, ℕ, [], ap, refl, subst}
use Rattle.log_reading.specs.Following.{Followed, most_logs, read_then}
use Rattle.log_reading.proofs.Placing.{first_there, next_set, none_there, read_so, unknown}
use Rattle.log_reading.proofs.following.SourceLogs.place.Goals as goal

pub returns-in-Some-first_equal : goal.returns-in-Some-first_equal
returns-in-Some-first_equal c =
    let s = c.args.self.now in
    let d = c.args.digest.now in
    let logs : c.self.inside.logs.items ≡ s.logs = ap (λ (f : Followed). f.logs) c.self.view_is in
    let read : c.self.inside.present.items ≡ s.present = ap (λ (f : Followed). f.present) c.self.view_is in
    let first = first_there s _ _ c.in-Some-first_equal.k (c.deref-3.ensures.value ∙ logs) (c.deref-4.ensures.value ∙ read) c.in-Some-first_equal.ensures in (
      unknown s _ _ d (c.deref.ensures.value ∙ logs) (c.deref-2.ensures.value ∙ read) c.in_default.ensures,
      first,
      read_so s _ d _ (c.in_ok-push-3.ensures.items ∙ ap (λ (f : List (List ℕ)). f ++ d ∷ []) read) (ap (λ (f : Followed). f.before) c.self.view_is)
          (next_set s c.self.inside.logs.items c.in-Some-first_equal.k c.index_mut.result.now _ d logs first c.index_mut.ensures.value c.in_ok-push-2.ensures),
    )

pub returns-then-count-ge-MOST_LOGS : goal.returns-then-count-ge-MOST_LOGS
returns-then-count-ge-MOST_LOGS c =
    let s = c.args.self.now in
    let logs : c.self.inside.logs.items ≡ s.logs = ap (λ (f : Followed). f.logs) c.self.view_is in
    let read : c.self.inside.present.items ≡ s.present = ap (λ (f : Followed). f.present) c.self.view_is in (
      unknown s _ _ c.args.digest.now (c.deref.ensures.value ∙ logs) (c.deref-2.ensures.value ∙ read) c.in_default.ensures,
      none_there s _ _ (c.deref-3.ensures.value ∙ logs) (c.deref-4.ensures.value ∙ read) c.in_default-first_equal.ensures,
      subst (λ (n : ℕ). most_logs ≤ n) c.logs-count.ensures c.if-count-ge-MOST_LOGS.true,
      refl,
    )

pub returns : goal.returns
returns c =
    let s = c.args.self.now in
    let d = c.args.digest.now in
    let logs : c.self.inside.logs.items ≡ s.logs = ap (λ (f : Followed). f.logs) c.self.view_is in
    let read : c.self.inside.present.items ≡ s.present = ap (λ (f : Followed). f.present) c.self.view_is in (
      unknown s _ _ d (c.deref.ensures.value ∙ logs) (c.deref-2.ensures.value ∙ read) c.in_default.ensures,
      none_there s _ _ (c.deref-3.ensures.value ∙ logs) (c.deref-4.ensures.value ∙ read) c.in_default-first_equal.ensures,
      c.if-count-ge-MOST_LOGS.false,
      c.logs-count.ensures,
      read_so s _ d (s.logs ++ read_then s d ∷ []) (c.in_ok-push-5.ensures.items ∙ ap (λ (f : List (List ℕ)). f ++ d ∷ []) read) (ap (λ (f : Followed). f.before) c.self.view_is)
          (c.in_ok-push-4.ensures.items ∙ ap (λ (ls : List (List (List ℕ))). ls ++ c.in_ok-log.log ∷ []) logs ∙ ap (λ (l : List (List ℕ)). s.logs ++ l ∷ []) c.in_ok-log.ensures),
    )
