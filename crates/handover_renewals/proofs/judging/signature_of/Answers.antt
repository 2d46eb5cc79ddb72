use Rattle.std.proofs.Common.{◌<◌, length, arith}
use Rattle.handover_renewals.proofs.SlotLaws.{found_vote, passed_vote}
use Rattle.handover_renewals.proofs.judging.signature_of.Goals as goal

pub returns-then-vote-s : goal.returns-then-vote-s
returns-then-vote-s c =
    let certificate = c.certificate-certificate.result.now in
    let below : c.loop-k.k < length certificate.entries = omega arith in
    found_vote certificate c.args.renewal.now.certificate c.args.s c.loop-k.k c.vote-vote.result c.certificate-certificate.ensures.value below
    c.loop-k.invariant c.vote-vote.ensures c.if-vote-s.true

pub loop-k-preserved : goal.loop-k-preserved
loop-k-preserved c =
    let certificate = c.certificate-certificate.result.now in
    let below : c.loop-k.k < length certificate.entries = omega arith in
    passed_vote certificate c.args.s c.loop-k.k c.vote-vote.result below c.loop-k.invariant c.vote-vote.ensures c.if-vote-s.false
