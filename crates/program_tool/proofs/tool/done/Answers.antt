use Rattle.program_tool.specs.StoredFiles.{Stored}
use Rattle.program_tool.proofs.Commanded.{culprits_of, enough_of, too_few_of}
use Rattle.program_tool.proofs.tool.done.Goals as goal

pub returns-in_ok-end-in-Audit-clause-done : goal.returns-in_ok-end-in-Audit-clause-done
returns-in_ok-end-in-Audit-clause-done g c is =
    let stored = g.D.StoreFiles.stored in
    rw c.in-Audit.is (enough_of _ _ _ _ _ _ _ (Stored (stored c.args.extras.now.files) (stored c.audit_sources.new.extras.files)) c.in-Audit.folder.now c.in-Audit.wishes.json c.deref-in-Audit.ensures.value
    (c.in_ok-end-in-Audit.ensures.none (c.of_audit.ensures.done is)))

pub returns-in_ok-end-in-Audit-clause-culprits : goal.returns-in_ok-end-in-Audit-clause-culprits
returns-in_ok-end-in-Audit-clause-culprits g c is =
    let stored = g.D.StoreFiles.stored in
    rw c.in-Audit.is (culprits_of _ _ _ _ _ _ (Stored (stored c.args.extras.now.files) (stored c.audit_sources.new.extras.files)) c.in-Audit.folder.now c.in-Audit.wishes.json c.deref-in-Audit.ensures.value
    (c.in_ok-end-in-Audit.ensures.culprits (c.of_audit.ensures.culprits is)))

pub returns-in_ok-end-in-Audit-clause-too_few : goal.returns-in_ok-end-in-Audit-clause-too_few
returns-in_ok-end-in-Audit-clause-too_few g c is =
    let stored = g.D.StoreFiles.stored in
    rw c.in-Audit.is (too_few_of _ _ _ _ _ _ _ (Stored (stored c.args.extras.now.files) (stored c.audit_sources.new.extras.files)) c.in-Audit.folder.now c.in-Audit.wishes.json c.deref-in-Audit.ensures.value
    (c.in_ok-end-in-Audit.ensures.too_few (c.of_audit.ensures.too_few is)))
