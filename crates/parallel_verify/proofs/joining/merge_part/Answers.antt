use Rattle.std.proofs.Common.{◌∙◌, List, ap, subst}
use Rattle.std.specs.List.{Contains}
use Rattle.blocks.specs.Headers.{Header}
use Rattle.audit_evidence.specs.Gathering.{IsGatheringRefusal}
use Rattle.audit_evidence.proofs.Gatherings.{handed_on}
use Rattle.parallel_verify.specs.Parts.{Part}
use Rattle.parallel_verify.proofs.joining.merge_part.Goals as goal

pub returns-in_err-merge-clause-err : goal.returns-in_err-merge-clause-err
returns-in_err-merge-clause-err g c =
    let a = c.args.gathered.now in
    let e = c.in_err-merge.field-0.0 in
    handed_on c.from_residual.result (IsGatheringRefusal a (Contains c.args.part.now.headers)) e c.from_residual.ensures.1
    (subst (λ (headers : List Header). IsGatheringRefusal a (Contains headers) e) (c.deref.ensures.value ∙ ap (λ (p : Part). p.headers) c.part.view_is) c.in_err-merge.ensures.err)
