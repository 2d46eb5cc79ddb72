use Rattle.std.proofs.Common.{◌≡◌, ◌∙◌, false, sym}
use Rattle.audit_evidence.proofs.Gatherings.{gained_as}
use Rattle.parallel_verify.proofs.judging.put_bad.Goals as goal

pub returns-in_ok-insert : goal.returns-in_ok-insert
returns-in_ok-insert c =
    let same = c.in_ok-again.ensures in
    let no : c.args.answer ≡ false = c.if-not-answer.true in
    gained_as c.args.bad.now c.insert.new.self _ _ (λ v. (λ e. (no, e ∙ same), λ w. w.1 ∙ sym same)) c.in_ok-insert.ensures.ok
