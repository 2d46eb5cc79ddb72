use Rattle.std.proofs.Common.{refl}
use Rattle.std.proofs.lemmas.Result.{IfOk-weaker}
use Rattle.program_tool.specs.AuditFiles.{HasStored}
use Rattle.program_tool.specs.StoredFiles.{Stored}
use Rattle.program_tool.specs.Audits.{AreCulpritsPrinted, IsEnoughPrinted, IsTooLittlePrinted}
use Rattle.program_tool.specs.declared.audit.AuditEnd.TheVariants.{NoCulprit, TooFewSound, Culprits}
use Rattle.program_tool.proofs.Endings.{ended_as}
use Rattle.program_tool.proofs.Openings.{of_words}
use Rattle.program_tool.proofs.audit.audit_servers.Goals as goal

pub returns-clause-culprits : goal.returns-clause-culprits
unfolding AreCulpritsPrinted
returns-clause-culprits g c =
    let opened = c.in_ok-sources.ensures in
    IfOk-weaker c.audit_opened.result _ _ (λ end printed is.
    let w = printed is in
    let p = w.2 in (
      w.0,
      w.1,
      of_words _ _ (λ s. s.connector) _ _ _ _ _ _ _ _ _ _ _ _ c.requires.spelled refl opened.opened opened.tries p.run p.accountability p.are p.with p.proofs p.more_than_a_third p.wrote refl,
    )) (ended_as _ _ _ _ _ _ (HasStored (Stored (g.D.StoreFiles.stored c.args.extras.now.files) (g.D.StoreFiles.stored c.audit_opened.new.extras.files)) c.args.folder.now c.args.words.now c.args.wishes.json) c.audit_opened.result Culprits c.audit_opened.ensures.ended)

pub returns-clause-none : goal.returns-clause-none
unfolding IsEnoughPrinted
returns-clause-none g c =
    let opened = c.in_ok-sources.ensures in
    IfOk-weaker c.audit_opened.result _ _ (λ end printed is.
    let p = printed is in
    of_words _ _ (λ s. s.connector) _ _ _ _ _ _ _ _ _ _ _ _ c.requires.spelled refl opened.opened opened.tries p.run p.accountability p.are p.with p.proofs p.more_than_a_third p.wrote refl)
    (ended_as _ _ _ _ _ _ (HasStored (Stored (g.D.StoreFiles.stored c.args.extras.now.files) (g.D.StoreFiles.stored c.audit_opened.new.extras.files)) c.args.folder.now c.args.words.now c.args.wishes.json) c.audit_opened.result NoCulprit c.audit_opened.ensures.ended)

pub returns-clause-too_few : goal.returns-clause-too_few
unfolding IsTooLittlePrinted
returns-clause-too_few g c =
    let opened = c.in_ok-sources.ensures in
    IfOk-weaker c.audit_opened.result _ _ (λ end printed is.
    let p = printed is in
    of_words _ _ (λ s. s.connector) _ _ _ _ _ _ _ _ _ _ _ _ c.requires.spelled refl opened.opened opened.tries p.run p.accountability p.are p.with p.proofs p.more_than_a_third p.wrote refl)
    (ended_as _ _ _ _ _ _ (HasStored (Stored (g.D.StoreFiles.stored c.args.extras.now.files) (g.D.StoreFiles.stored c.audit_opened.new.extras.files)) c.args.folder.now c.args.words.now c.args.wishes.json) c.audit_opened.result TooFewSound c.audit_opened.ensures.ended)
