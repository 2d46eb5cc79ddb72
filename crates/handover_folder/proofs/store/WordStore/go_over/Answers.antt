use Rattle.std.proofs.Common.{◌≡◌, Err, None, rules, sym, ◌∙◌}
use Rattle.handover_folder.specs.State.{said_in}
use Rattle.handover_folder.specs.Words.{Over}
use Rattle.handover_folder.proofs.Stored.{stored, unstored}
use Rattle.handover_folder.proofs.store.WordStore.go_over.Goals as goal

pub invariant_of-self : goal.invariant_of-self
invariant_of-self g c =
    let j = c.self.inside.journal in
    let none : c.self.inside.said.gone ≡ None = search rules in
    unstored g.D.Disk.bytes g.D.Disk.images g.D.Disk.moment g.D.Disk.images_since j c.append.new.self (said_in c.self.inside.said) (Over c.args.word) c.write_word.result c.self.invariant
    (record { text = c.write_word.ensures.text; whole = c.write_word.ensures.whole }) none c.append.ensures.tells (g.met.D.Disk.counts_now c.append.new.self.disk)
    (c.append.ensures.any_moment (sym c.stopped.ensures ∙ c.if-stopped.false)) c.in_err-append.field-0.0 (λ is. c.in_err-append.ensures.device (λ i. Err (is i))) c.in_err-append.ensures.err

pub invariant_of-self-2 : goal.invariant_of-self-2
invariant_of-self-2 g c =
    let j = c.self.inside.journal in
    let none : c.self.inside.said.gone ≡ None = search rules in
    let new = c.append.new.self in
    rw c.in_ok-append.ensures.grows.running (
    stored g.D.Disk.bytes g.D.Disk.images g.D.Disk.moment g.D.Disk.images_since j.disk new.disk j.payloads new.payloads (said_in c.self.inside.said) (Over c.args.word) c.write_word.result j.stopped c.self.invariant
    (record { text = c.write_word.ensures.text; whole = c.write_word.ensures.whole }) none c.append.ensures.tells c.in_ok-append.ensures.ok c.in_ok-append.ensures.grows.counted c.in_ok-append.ensures.durable)
