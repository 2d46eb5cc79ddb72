use Rattle.std.proofs.Common.{ℕ, List, get_or, subst}
use Rattle.audit_evidence.proofs.Gatherings.{zip_more}
use Rattle.handover_proof.specs.Proofs.{IsLogOf}
use Rattle.handover_proof.proofs.proof.logs_of.Goals as goal

pub loop-file-preserved : goal.loop-file-preserved
loop-file-preserved c =
    let files = c.args.files.now in
    let file = c.file-item.result in
    let log = c.in_ok-log_of.field-0 in
    let i = c.loop-file.file-index in
    let one : IsLogOf (get_or files i file) log = subst (λ (text : List ℕ). IsLogOf text log) c.file-item.is c.in_ok-log_of.ensures in
    rw c.in_ok-push.ensures.items (zip_more IsLogOf files c.loop-file.logs.items i file log c.loop-file-test.true c.loop-file.invariant one)
