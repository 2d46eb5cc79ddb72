use Rattle.std.proofs.Common.{◌≡◌, ◌∙◌, ◌++◌, Option, None, List, ℕ, drop, ap, sym, subst, rules}
use Rattle.std.specs.Prelude.{MatchOption}
use Rattle.log_format.specs.declared.status.Status.{Status}
use Rattle.log_transfer.specs.Pulled.{Pulled, IsArrived, IsDecided, IsPulled, IsUndecided}
use Rattle.log_transfer.proofs.Feeding.{arrived}
use Rattle.log_transfer.proofs.puller.Puller.feed_on.Goals as goal

pub returns-in-Ok-clause-ok : goal.returns-in-Ok-clause-ok
returns-in-Ok-clause-ok c =
    let p = c.self.inside in
    let piece = c.args.piece.now in
    let open_still : p.ended ≡ None = ap (λ (v : Pulled). v.ended) c.self.view_is ∙ c.requires in
    let text : c.deref.result.now ≡ p.rest.items ++ piece = c.deref.ensures.value ∙ c.in_ok-extend_from_slice.ensures.items in
    let kept : c.drop-drain.new.self.0.items ≡ drop c.in-Ok.found.used c.deref.result.now = search rules in
    rw (← c.self.view_is) (λ stream w.
    let u : IsUndecided p.held stream p.begun p.frames.items p.rest.items =
    subst (λ (e : Option Status). MatchOption e (IsUndecided p.held stream p.begun p.frames.items p.rest.items) (IsDecided p.held stream p.frames.items)) open_still w in
    let a = subst (λ (t : List ℕ). IsArrived p.held (stream ++ piece) p.begun p.frames.items t) (sym text) (arrived p.held stream p.begun p.frames.items p.rest.items piece u) in
    subst (λ (t : List ℕ). IsPulled p.held (stream ++ piece) c.in-Ok.found.begun c.read_on.new.frames.items t c.in-Ok.found.ended) (sym kept) (c.in-Ok.ensures.ok (stream ++ piece) a))
