use Rattle.std.proofs.Common.{◌≡◌, ◌++◌, ◌∷◌, [], List, ℕ, Err, ap, subst, sym, ◌∙◌}
use Rattle.blocks.specs.Replica.{Stored}
use Rattle.blocks.specs.Replay.{IsLegal}
use Rattle.stable_log.specs.declared.error.JournalError.{JournalError}
use Rattle.log_format.specs.EntryText.{IsEntryOf, stored_in}
use Rattle.vote_log.specs.Logs.{KeepsLog}
use Rattle.vote_log.proofs.LogAppends.{appended_entries, durable_entries, kept_appended, kept_refused, run_told, unmoved}
use Rattle.vote_log.proofs.log.VoteLog.append.Goals as goal

pub returns-then-count-ge-MOST_ENTRIES-clause-any_moment :
    goal.returns-then-count-ge-MOST_ENTRIES-clause-any_moment
returns-then-count-ge-MOST_ENTRIES-clause-any_moment g c =
    let j = c.self.inside.journal in
    rw (← c.self.view_is) (λ running.
    unmoved g.D.Disk.moment g.D.Disk.images_since j.disk (g.D.Disk.bytes j.disk) (g.D.Disk.images j.disk) j.payloads j.stopped c.self.inside.genesis c.self.inside.steps.items c.args.entry.now
    c.self.invariant (g.met.D.Disk.only_now j.disk) running)

pub returns-in_err-text-clause-any_moment : goal.returns-in_err-text-clause-any_moment
returns-in_err-text-clause-any_moment g c =
    let j = c.self.inside.journal in
    rw (← c.self.view_is) (λ running.
    unmoved g.D.Disk.moment g.D.Disk.images_since j.disk (g.D.Disk.bytes j.disk) (g.D.Disk.images j.disk) j.payloads j.stopped c.self.inside.genesis c.self.inside.steps.items c.args.entry.now
    c.self.invariant (g.met.D.Disk.only_now j.disk) running)

pub returns-in_err-reserve-clause-any_moment : goal.returns-in_err-reserve-clause-any_moment
returns-in_err-reserve-clause-any_moment g c =
    let j = c.self.inside.journal in
    rw (← c.self.view_is) (λ running.
    unmoved g.D.Disk.moment g.D.Disk.images_since j.disk (g.D.Disk.bytes j.disk) (g.D.Disk.images j.disk) j.payloads j.stopped c.self.inside.genesis c.self.inside.steps.items c.args.entry.now
    c.self.invariant (g.met.D.Disk.only_now j.disk) running)

pub invariant_of-self-in_err-append : goal.invariant_of-self-in_err-append
invariant_of-self-in_err-append g c =
    let refused = c.in_err-append.ensures in
    rw c.reserve.ensures.items (
    kept_refused g.D.Disk.bytes g.D.Disk.images c.self.inside.journal c.append.new.self c.self.inside.genesis c.self.inside.steps.items c.in_err-append.field-0.0
    c.self.invariant (λ is. refused.device (ap (λ (x : JournalError). Err x) is)) refused.err refused.tells)

pub returns-in_err-append-clause-any_moment : goal.returns-in_err-append-clause-any_moment
returns-in_err-append-clause-any_moment g c =
    let j = c.self.inside.journal in
    let is : IsEntryOf c.deref.result.now c.args.entry.now = subst (λ (t : List ℕ). IsEntryOf t c.args.entry.now) (sym c.deref.ensures.value) c.in_ok-text.ensures.spells in
    rw (← c.self.view_is) (λ running.
    run_told g.D.Disk.moment g.D.Disk.images_since j.disk c.append.new.self.disk (g.D.Disk.bytes j.disk) (g.D.Disk.images j.disk) j.payloads j.stopped c.self.inside.genesis c.self.inside.steps.items c.deref.result.now c.args.entry.now
    c.self.invariant is (c.append.ensures.any_moment running))

pub invariant_of-self-2 : goal.invariant_of-self-2
invariant_of-self-2 g c =
    let j = c.self.inside.journal in
    let n = c.append.new.self in
    let steps = c.self.inside.steps.items in
    let x = stored_in c.args.entry.now in
    let added = c.in_ok-append.ensures in
    let is : IsEntryOf c.deref.result.now c.args.entry.now = subst (λ (t : List ℕ). IsEntryOf t c.args.entry.now) (sym c.deref.ensures.value) c.in_ok-text.ensures.spells in
    let legal : IsLegal c.self.inside.genesis (steps ++ x ∷ []) = rw (← c.self.view_is) at c.requires in
    let pushed : c.push_reserved.new.self.items ≡ steps ++ x ∷ [] =
    c.push_reserved.ensures.items ∙ ap (λ (l : List Stored). l ++ c.stored.result ∷ []) c.reserve.ensures.items ∙ ap (λ (s : Stored). steps ++ s ∷ []) c.stored.ensures in
    subst (λ (l : List Stored). KeepsLog (g.D.Disk.bytes n.disk) (g.D.Disk.images n.disk) n.payloads n.stopped c.self.inside.genesis l) (sym pushed)
    (kept_appended (g.D.Disk.bytes j.disk) (g.D.Disk.bytes n.disk) (g.D.Disk.images j.disk) (g.D.Disk.images n.disk) j.payloads n.payloads j.stopped n.stopped c.self.inside.genesis steps c.deref.result.now c.args.entry.now
    c.self.invariant legal is added.ok added.grows.counted added.tells added.durable)

pub returns-clause-ok : goal.returns-clause-ok
returns-clause-ok g c =
    let j = c.self.inside.journal in
    let is : IsEntryOf c.deref.result.now c.args.entry.now = subst (λ (t : List ℕ). IsEntryOf t c.args.entry.now) (sym c.deref.ensures.value) c.in_ok-text.ensures.spells in
    rw (← c.self.view_is) (record {
      steps = c.push_reserved.ensures.items ∙ ap (λ (l : List Stored). l ++ c.stored.result ∷ []) c.reserve.ensures.items ∙ ap (λ (s : Stored). c.self.inside.steps.items ++ s ∷ []) c.stored.ensures;
      entries = appended_entries (g.D.Disk.bytes j.disk) j.payloads c.append.new.self.payloads c.deref.result.now c.args.entry.now is c.in_ok-append.ensures.ok;
    })

pub returns-clause-durable : goal.returns-clause-durable
returns-clause-durable g c =
    let j = c.self.inside.journal in
    let n = c.append.new.self in
    let is : IsEntryOf c.deref.result.now c.args.entry.now = subst (λ (t : List ℕ). IsEntryOf t c.args.entry.now) (sym c.deref.ensures.value) c.in_ok-text.ensures.spells in
    rw (← c.self.view_is) (
    durable_entries (g.D.Disk.bytes j.disk) (g.D.Disk.images j.disk) (g.D.Disk.images n.disk) j.payloads n.payloads j.stopped c.self.inside.genesis c.self.inside.steps.items c.deref.result.now c.args.entry.now
    c.self.invariant is c.in_ok-append.ensures.ok c.in_ok-append.ensures.durable)

pub returns-clause-any_moment : goal.returns-clause-any_moment
returns-clause-any_moment g c =
    let j = c.self.inside.journal in
    let is : IsEntryOf c.deref.result.now c.args.entry.now = subst (λ (t : List ℕ). IsEntryOf t c.args.entry.now) (sym c.deref.ensures.value) c.in_ok-text.ensures.spells in
    rw (← c.self.view_is) (λ running.
    run_told g.D.Disk.moment g.D.Disk.images_since j.disk c.append.new.self.disk (g.D.Disk.bytes j.disk) (g.D.Disk.images j.disk) j.payloads j.stopped c.self.inside.genesis c.self.inside.steps.items c.deref.result.now c.args.entry.now
    c.self.invariant is (c.append.ensures.any_moment running))
