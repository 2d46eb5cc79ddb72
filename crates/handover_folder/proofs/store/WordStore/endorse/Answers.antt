use Rattle.std.proofs.Common.{◌≡◌, Err, None, rules, sym, ◌∙◌}
use Rattle.handover_folder.specs.State.{said_in}
use Rattle.handover_folder.specs.Words.{Endorsed, IsEndorsement}
use Rattle.handover_folder.proofs.Stored.{run_words, stored, unstored}
use Rattle.handover_folder.proofs.Taken.{none_of}
use Rattle.handover_folder.proofs.store.WordStore.endorse.Goals as goal

pub invariant_of-self : goal.invariant_of-self
invariant_of-self g c =
    let j = c.self.inside.journal in
    let bytes = c.args.endorsement.now in
    let whole : IsEndorsement bytes = search rules in
    let none : (said_in c.self.inside.said).endorsed ≡ None = search rules in
    let not_gone : c.self.inside.said.gone ≡ None = none_of c.self.inside.said.gone (sym c.is_some.ensures ∙ c.if-is_some.false) in
    unstored g.D.Disk.bytes g.D.Disk.images g.D.Disk.moment g.D.Disk.images_since j c.append.new.self (said_in c.self.inside.said) (Endorsed bytes) c.deref.result.now c.self.invariant
    (record { text = c.deref.ensures.value ∙ c.in_ok-entry.ensures; whole = whole }) (none, not_gone) c.append.ensures.tells (g.met.D.Disk.counts_now c.append.new.self.disk)
    (c.append.ensures.any_moment (sym c.stopped.ensures ∙ c.if-stopped.false)) c.in_err-append.field-0.0 (λ is. c.in_err-append.ensures.device (λ i. Err (is i))) c.in_err-append.ensures.err

pub returns-in_err-append-clause-any_moment : goal.returns-in_err-append-clause-any_moment
returns-in_err-append-clause-any_moment g c stopped =
    let j = c.self.inside.journal in
    let bytes = c.args.endorsement.now in
    let whole : IsEndorsement bytes = search rules in
    let none : (said_in c.self.inside.said).endorsed ≡ None = search rules in
    let not_gone : c.self.inside.said.gone ≡ None = none_of c.self.inside.said.gone (sym c.is_some.ensures ∙ c.if-is_some.false) in
    rw (← c.self.view_is) (
    run_words g.D.Disk.bytes g.D.Disk.images g.D.Disk.moment g.D.Disk.images_since j.disk c.append.new.self.disk j.payloads j.payloads (said_in c.self.inside.said) (Endorsed bytes) c.deref.result.now j.stopped c.self.invariant
    (record { text = c.deref.ensures.value ∙ c.in_ok-entry.ensures; whole = whole }) (none, not_gone) c.append.ensures.tells
    (c.append.ensures.any_moment (sym c.stopped.ensures ∙ c.if-stopped.false)))

pub invariant_of-self-2 : goal.invariant_of-self-2
invariant_of-self-2 g c =
    let j = c.self.inside.journal in
    let bytes = c.args.endorsement.now in
    let new = c.append.new.self in
    let whole : IsEndorsement bytes = search rules in
    let none : (said_in c.self.inside.said).endorsed ≡ None = search rules in
    let not_gone : c.self.inside.said.gone ≡ None = none_of c.self.inside.said.gone (sym c.is_some.ensures ∙ c.if-is_some.false) in
    let kept : c.in_ok-kept.kept.items ≡ bytes = c.in_ok-kept.ensures.items_if_clones_equal (λ x y same. same) in
    rw (c.in_ok-append.ensures.grows.running, kept) (
    stored g.D.Disk.bytes g.D.Disk.images g.D.Disk.moment g.D.Disk.images_since j.disk new.disk j.payloads new.payloads (said_in c.self.inside.said) (Endorsed bytes) c.deref.result.now j.stopped c.self.invariant
    (record { text = c.deref.ensures.value ∙ c.in_ok-entry.ensures; whole = whole }) (none, not_gone) c.append.ensures.tells c.in_ok-append.ensures.ok c.in_ok-append.ensures.grows.counted c.in_ok-append.ensures.durable)
