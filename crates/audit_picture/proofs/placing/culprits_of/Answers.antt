use Rattle.std.proofs.Common.{◌≡◌, ◌<◌, ◌+◌, ℕ, List, length, get_or, subst, arith, rules}
use Rattle.audit_picture.specs.Lanes.{IsCulpritOf}
use Rattle.audit_picture.proofs.Zips.{zip_more}
use Rattle.audit_picture.proofs.placing.culprits_of.Goals as goal

pub loop-verdict-preserved : goal.loop-verdict-preserved
loop-verdict-preserved c =
    let verdicts = c.args.verdicts.now in
    let verdict = c.verdict-item.result in
    let culprit = c.culprit_of.result in
    let i = c.loop-verdict.verdict-index in
    let within : i < length verdicts = omega arith in
    let one : IsCulpritOf (get_or verdicts i verdict) culprit = subst (λ (v : List ℕ). IsCulpritOf v culprit) c.verdict-item.is c.culprit_of.ensures in
    let longer : length c.push.new.self.items ≡ i + 1 = search rules in
    record {
      each = rw c.in_ok-push.ensures.items (zip_more IsCulpritOf verdicts c.loop-verdict.culprits.items i verdict culprit within c.loop-verdict.invariant.each one);
      count = longer;
    }
