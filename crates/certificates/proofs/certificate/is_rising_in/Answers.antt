use Rattle.std.proofs.Common.{drop, ◌+◌, ◌<◌, ◌≤◌, sym, ap, ◌∙◌, arith}
use Rattle.std.proofs.lemmas.List.{drop_all}
use Rattle.certificates.specs.CertificateReading.{endorsement_at, entries_in, rises_from}
use Rattle.certificates.proofs.Entries.{entries_from, length-entries_in}
use Rattle.certificates.proofs.Rising.{rises_on, rises_no_more}
use Rattle.certificates.proofs.certificate.is_rising_in.Goals as goal

pub returns-then-replica-least : goal.returns-then-replica-least
returns-then-replica-least c =
    let bytes = c.args.bytes.now in
    let k = c.loop-k.k in
    let e = endorsement_at bytes k in
    let low : e.replica < c.loop-k.least = omega (arith, c.replica_at-replica.ensures) in
    sym (c.loop-k.invariant.so_far ∙ rises_no_more c.loop-k.least (entries_in bytes c.args.count) k e (entries_from bytes c.args.count k (omega arith)) low)

pub loop-k-preserved : goal.loop-k-preserved
loop-k-preserved c =
    let bytes = c.args.bytes.now in
    let k = c.loop-k.k in
    let es = entries_in bytes c.args.count in
    let e = endorsement_at bytes k in
    let high : c.loop-k.least ≤ e.replica = omega (arith, c.replica_at-replica.ensures) in
    record {
      so_far = c.loop-k.invariant.so_far ∙ rises_on c.loop-k.least es k e (entries_from bytes c.args.count k (omega arith)) high
          ∙ ap (λ n. rises_from (n + 1) (drop (k + 1) es)) (sym c.replica_at-replica.ensures);
      small = omega arith;
    }

pub returns : goal.returns
returns c =
    let es = entries_in c.args.bytes.now c.args.count in
    sym (c.loop-k.invariant.so_far ∙ ap (rises_from c.loop-k.least) (drop_all c.loop-k.k es (omega (arith, length-entries_in c.args.bytes.now c.args.count))))
