use Rattle.std.proofs.Common.{◌≡◌, ◌≢◌, ℕ, List, Bool, Some, take, sym, subst, inl, inr}
use Rattle.stable_log.specs.Image.{magic}
use Rattle.stable_log.specs.Refusals.{IsDamaged, IsJournalRecoverRefusal}
use Rattle.stable_log.specs.declared.error.JournalError.{JournalError}
use Rattle.stable_log.proofs.Told.{ok_both}
use Rattle.program_show.specs.Files.{IsWholeOrElse, IsJournalText, IsNoJournalText}
use Rattle.program_show.proofs.log.journal_page.Goals as goal

pub returns-in-Err-NotAJournal-default : goal.returns-in-Err-NotAJournal-default
returns-in-Err-NotAJournal-default c =
    let bytes = c.args.bytes.items in
    let told = c.in_ok-new.ensures.told in
    let same : c.in_ok-new.field-0.bytes.items ≡ bytes = cc told in
    let other : take 8 c.in_ok-new.field-0.bytes.items ≢ magic =
    subst (λ (e : JournalError). IsJournalRecoverRefusal (Some c.in_ok-new.field-0.bytes.items) e) c.in-Err-NotAJournal-default.field-0-0-is c.in-Err-NotAJournal-default.ensures.first_refusal in
    let here : take 8 bytes ≢ magic = subst (λ (b : List ℕ). take 8 b ≢ magic) same other in
    ok_both c.refused_page.result _ _ _ c.refused_page.ensures.text c.refused_page.ensures.whole
    (λ p text whole. subst (λ (b : Bool). IsWholeOrElse (IsJournalText c.args.committee.now bytes p.text.items) (IsNoJournalText bytes p.text.items) b) (sym whole) (inl (here, text)))

pub returns-in-Err-Damaged-default : goal.returns-in-Err-Damaged-default
returns-in-Err-Damaged-default c =
    let bytes = c.args.bytes.items in
    let told = c.in_ok-new.ensures.told in
    let same : c.in_ok-new.field-0.bytes.items ≡ bytes = cc told in
    let there : IsDamaged c.in_ok-new.field-0.bytes.items =
    subst (λ (e : JournalError). IsJournalRecoverRefusal (Some c.in_ok-new.field-0.bytes.items) e) c.in-Err-Damaged-default.field-0-0-is c.in-Err-Damaged-default.ensures.first_refusal in
    let here : IsDamaged bytes = subst (λ (b : List ℕ). IsDamaged b) same there in
    ok_both c.refused_page-in-Err-Damaged-default.result _ _ _ c.refused_page-in-Err-Damaged-default.ensures.text c.refused_page-in-Err-Damaged-default.ensures.whole
    (λ p text whole. subst (λ (b : Bool). IsWholeOrElse (IsJournalText c.args.committee.now bytes p.text.items) (IsNoJournalText bytes p.text.items) b) (sym whole) (inr (here, text)))
