use Rattle.std.proofs.Common.{◌≤◌, ap, length, ◌∙◌, arith}
use Rattle.handover_renewals.specs.RenewalReading.{renewal_in}
use Rattle.handover_renewals.proofs.RenewalTexts.{renewal_again}
use Rattle.handover_renewals.specs.Endorsed.{texts_of}
use Rattle.handover_renewals.specs.Composing.{renewal_to}
use Rattle.handover_renewals.proofs.Endorsing.{length-texts_of}
use Rattle.handover_renewals.proofs.Seals.{read_err, read_ok, renewal_is}
use Rattle.handover_renewals.proofs.making.read_again.Goals as goal

pub returns-clause-ok : goal.returns-clause-ok
returns-clause-ok c =
    let es = texts_of c.args.endorsements.now in
    let to = renewal_to c.args.old.now c.args.new.now es in
    let any : 1 ≤ length es = let some = c.requires.some in omega (arith, length-texts_of c.args.endorsements.now) in
    let is = renewal_is c.args.old.now c.args.new.now es c.requires.composed.was c.requires.composed.passed.good c.requires.composed.bytes any in
    read_ok c.read.result to (c.read.ensures.only to is c.requires.text)

pub returns-clause-memory : goal.returns-clause-memory
returns-clause-memory c =
    let es = texts_of c.args.endorsements.now in
    let to = renewal_to c.args.old.now c.args.new.now es in
    let any : 1 ≤ length es = let some = c.requires.some in omega (arith, length-texts_of c.args.endorsements.now) in
    let is = renewal_is c.args.old.now c.args.new.now es c.requires.composed.was c.requires.composed.passed.good c.requires.composed.bytes any in
    read_err c.read.result to (c.read.ensures.only to is c.requires.text)

pub returns-clause-read : goal.returns-clause-read
returns-clause-read c =
    let es = texts_of c.args.endorsements.now in
    let to = renewal_to c.args.old.now c.args.new.now es in
    let any : 1 ≤ length es = let some = c.requires.some in omega (arith, length-texts_of c.args.endorsements.now) in
    let is = renewal_is c.args.old.now c.args.new.now es c.requires.composed.was c.requires.composed.passed.good c.requires.composed.bytes any in
    ap renewal_in c.requires.text ∙ renewal_again to is
