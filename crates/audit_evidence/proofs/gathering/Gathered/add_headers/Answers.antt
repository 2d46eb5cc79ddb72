use Rattle.std.proofs.Common.{◌∙◌, inl, inr}
use Rattle.audit_evidence.proofs.Gatherings.{grown_as, grown_both, fault_later, if_err, on_ok, two_headers, none_of}
use Rattle.audit_evidence.proofs.gathering.Gathered.add_headers.Goals as goal

pub returns-clause-ok : goal.returns-clause-ok
returns-clause-ok g c =
    on_ok c.add_header-2.result _ _ (λ step. grown_as _ _ _ _ _ _ (λ h. two_headers c.args.entry.now c.block.result.now c.parent.result.now h c.block.ensures.value c.parent.ensures.value) none_of
    (grown_both _ _ _ _ _ _ _ c.in_ok-add_header.ensures.ok step)) c.add_header-2.ensures.ok

pub returns-clause-err : goal.returns-clause-err
returns-clause-err g c =
    if_err c.add_header-2.result _ _ (λ r. fault_later _ _ _ _ _ _ r c.in_ok-add_header.ensures.ok (λ h e. inl (e ∙ c.block.ensures.value)) (λ h e. inr (e ∙ c.parent.ensures.value))) c.add_header-2.ensures.err
