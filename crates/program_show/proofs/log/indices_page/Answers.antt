use Rattle.std.proofs.Common.{◌≡◌, ℕ, List, Bool, Some, sym, subst}
use Rattle.key_index_store.specs.Indices.{limit_of}
use Rattle.key_index_store.specs.Refusals.{HasNoBoundary, IsIndexRecoverRefusal}
use Rattle.base_wire.specs.declared.limits.TheConstants.{MOST_KEYS}
use Rattle.key_index_store.specs.declared.error.IndexError.{IndexError}
use Rattle.stable_log.proofs.Told.{ok_both}
use Rattle.program_show.specs.Files.{IsWholeOrElse, IsIndicesText, IsNoIndicesText}
use Rattle.program_show.proofs.log.indices_page.Goals as goal

pub returns-in-Err-BadEntry-default : goal.returns-in-Err-BadEntry-default
returns-in-Err-BadEntry-default c =
    let bytes = c.args.bytes.items in
    let told = c.in_ok-new.ensures.told in
    let same : c.in_ok-new.field-0.bytes.items ≡ bytes = cc told in
    let none_there : HasNoBoundary (limit_of MOST_KEYS) c.in_ok-new.field-0.bytes.items =
    subst (λ (e : IndexError). IsIndexRecoverRefusal (limit_of MOST_KEYS) (Some c.in_ok-new.field-0.bytes.items) e) c.in-Err-BadEntry-default.field-0-0-is c.in-Err-BadEntry-default.ensures.first_refusal in
    let none : HasNoBoundary (limit_of MOST_KEYS) bytes = subst (λ (b : List ℕ). HasNoBoundary (limit_of MOST_KEYS) b) same none_there in
    ok_both c.refused_page.result _ _ _ c.refused_page.ensures.text c.refused_page.ensures.whole
    (λ p text whole. subst (λ (b : Bool). IsWholeOrElse (IsIndicesText bytes p.text.items) (IsNoIndicesText bytes p.text.items) b) (sym whole) (none, text))
