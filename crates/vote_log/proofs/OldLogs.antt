-- Logs in the old form, entry by entry.
use Rattle.std.proofs.Common.{◌≡◌, ◌≢◌, inl, inr, ℕ, zero, suc, ◌+◌, ◌<◌, ◌≤◌, List, [], ◌∷◌, ◌++◌, length, take, Option, Some, None, IfSome, false, refl, sym, ap, subst, ◌∙◌, add-one, arith}
use Rattle.std.specs.Prelude.{map}
use Rattle.std.proofs.lemmas.Bool.{false≢true}
use Rattle.std.proofs.lemmas.List.{take-map, take_all}
use Rattle.std.proofs.lemmas.List.Elements.{All-head, All-tail, All-nil, All-push, All-take}
use Rattle.blocks.specs.Headers.{Header}
use Rattle.blocks.specs.Replica.{Stored}
use Rattle.blocks.specs.Replay.{Durable, IsLegal, IsLegalEntry, IsLegalFrom, first_durable, replay, replay_entry}
use Rattle.stable_log.proofs.Told.{some_if, if_some}
use Rattle.log_format.specs.EntryText.{Entry, stored_in}
use Rattle.vote_log.specs.Logs.{LogState, steps_of}
use Rattle.vote_log.specs.LogRefusals.{IsLogAppendRefusal}
use Rattle.vote_log.specs.OldEntries.{AreOldTexts, IsFirstOldIllegal, IsFirstOldUnreadable, IsOldEntry, IsOldEntryAt, IsOldEntryOf, IsOldLog, old_entry_text}
use Rattle.vote_log.specs.Migrations.{AreCarriedOver, GivesOther, IsOldReadRefusal, IsOldStepsRefusal}
use Rattle.vote_log.specs.declared.log_error.LogError.{LogError}
use Rattle.vote_log.specs.declared.log_error.LogError.TheVariants.{Memory, Device, NotAJournal, Damaged, Full, Stopped, NoSuchEntry, BadEntry, IllegalLog}
use Rattle.vote_log.proofs.LogLaws.{legal_last, legal_more, map-push, replay_more, steps_push, take-more}
use Rattle.vote_log.proofs.Renewed.{one_old_entry}

-- ---- texts in the old form

pub no_old_texts : AreOldTexts [] []
no_old_texts = record { each = All-nil IsOldEntry; texts = refl }

old_texts_push : (payloads : List (List ℕ)) (entries : List Entry) (text : List ℕ) (e : Entry) → AreOldTexts payloads entries → IsOldEntryOf text e → AreOldTexts (payloads ++ text ∷ []) (entries ++ e ∷ [])
old_texts_push payloads entries text e so_far is = record {
  each = All-push IsOldEntry entries e so_far.each is.old;
  texts =
      ap (λ (l : List (List ℕ)). l ++ text ∷ []) so_far.texts ∙ ap (λ (t : List ℕ). map old_entry_text entries ++ t ∷ []) is.text
      ∙ sym (map-push old_entry_text entries e);
}

-- one entry more
pub old_texts_more : (payloads : List (List ℕ)) (k : ℕ) (entries : List Entry) (e : Entry) → AreOldTexts (take k payloads) entries → IsOldEntryAt payloads k e → AreOldTexts (take (k + 1) payloads) (entries ++ e ∷ [])
old_texts_more payloads k entries e so_far here =
    subst (λ (l : List (List ℕ)). AreOldTexts l (entries ++ e ∷ [])) (sym (ap (λ (n : ℕ). take n payloads) (add-one k) ∙ take-more payloads here.text k here.at))
    (old_texts_push (take k payloads) entries here.text e so_far here.entry)

old_texts_take : (payloads : List (List ℕ)) (entries : List Entry) (n : ℕ) → AreOldTexts payloads entries → AreOldTexts (take n payloads) (take n entries)
old_texts_take payloads entries n all = record {
  each = All-take IsOldEntry n entries all.each;
  texts = ap (take n) all.texts ∙ take-map old_entry_text n entries;
}

-- the first of them
old_head : (payloads : List (List ℕ)) (e : Entry) (es : List Entry) (p : List ℕ) (ps : List (List ℕ)) → payloads ≡ p ∷ ps → AreOldTexts payloads (e ∷ es) → IsOldEntryOf p e × AreOldTexts ps es
old_head payloads e es p ps split all =
    let both : p ∷ ps ≡ old_entry_text e ∷ map old_entry_text es = sym split ∙ all.texts in
    let here : p ≡ old_entry_text e = cc in
    let rest : ps ≡ map old_entry_text es = cc in (
      record { old = All-head IsOldEntry e es all.each; text = here },
      record { each = All-tail IsOldEntry e es all.each; texts = rest },
    )

-- payloads are the texts of one list of entries
one_old_list : (payloads : List (List ℕ)) (es fs : List Entry) → AreOldTexts payloads es → AreOldTexts payloads fs → es ≡ fs
one_old_list [] [] [] a b = refl
one_old_list [] (e ∷ es) fs a b = absurd (cc a.texts)
one_old_list [] [] (f ∷ fs) a b = absurd (cc b.texts)
one_old_list (p ∷ ps) [] fs a b = absurd (cc a.texts)
one_old_list (p ∷ ps) (e ∷ es) [] a b = absurd (cc b.texts)
one_old_list (p ∷ ps) (e ∷ es) (f ∷ fs) a b =
    let x = old_head (p ∷ ps) e es p ps refl a in
    let y = old_head (p ∷ ps) f fs p ps refl b in
    ap (λ (h : Entry). h ∷ es) (one_old_entry p e f x.0 y.0) ∙ ap (λ (l : List Entry). f ∷ l) (one_old_list ps es fs x.1 y.1)

pub carried_over : (told tells : Option (List ℕ)) (payloads : List (List ℕ)) (entries : List Entry) → IfSome told (λ _. IfSome tells (λ _. AreOldTexts payloads entries))
    → IfSome told (λ _. IfSome tells (λ _. AreCarriedOver payloads entries))
carried_over None tells payloads entries all = tt
carried_over (Some bs) None payloads entries all = tt
carried_over (Some bs) (Some cs) payloads entries all = record { spelled = all; only = λ others is. one_old_list payloads others entries is all }

-- each payload has its entry
old_at : (payloads : List (List ℕ)) (entries : List Entry) (k : ℕ) → k < length payloads → AreOldTexts payloads entries → (e : Entry) × IsOldEntryAt payloads k e
old_at [] entries k below all = absurd (omega arith)
old_at (p ∷ ps) [] k below all = absurd (cc all.texts)
old_at (p ∷ ps) (e ∷ es) zero below all = (e, record { text = p; at = refl; entry = (old_head (p ∷ ps) e es p ps refl all).0 })
old_at (p ∷ ps) (e ∷ es) (suc k) below all =
    let rest = old_at ps es k (omega arith) (old_head (p ∷ ps) e es p ps refl all).1 in
    (rest.0, record { text = rest.1.text; at = rest.1.at; entry = rest.1.entry })

-- ---- legal ones

legal_take_from : (d : Durable) (xs : List Stored) (n : ℕ) → IsLegalFrom d xs → IsLegalFrom d (take n xs)
legal_take_from d xs zero legal = tt
legal_take_from d [] (suc n) legal = tt
legal_take_from d (x ∷ xs) (suc n) legal = (legal.0, legal_take_from (replay_entry d x.voted x.block x.parent) xs n legal.1)

-- what was judged of the first k payloads, and what replay leaves of them
pub record IsJudged (genesis : Header) (payloads : List (List ℕ)) (k : ℕ) (d : Durable) : Type 0 where
  pub entries : List Entry
  pub log : IsOldLog genesis (take k payloads) entries
  pub replayed : d ≡ replay genesis (steps_of entries)

pub judged_none : (genesis : Header) (payloads : List (List ℕ)) (d : Durable) → d ≡ first_durable genesis → IsJudged genesis payloads 0 d
judged_none genesis payloads d is = record { entries = []; log = record { texts = no_old_texts; legal = tt }; replayed = is }

pub judged_more : (genesis : Header) (payloads : List (List ℕ)) (k : ℕ) (d next : Durable) (e : Entry) → IsJudged genesis payloads k d → IsOldEntryAt payloads k e
    → IsLegalEntry d (stored_in e).voted e.block e.parent → next ≡ replay_entry d (stored_in e).voted e.block e.parent → IsJudged genesis payloads (k + 1) next
judged_more genesis payloads k d next e so_far here legal left =
    let before = so_far.entries in
    record {
      entries = before ++ e ∷ [];
      log = record {
        texts = old_texts_more payloads k before e so_far.log.texts here;
        legal = subst (IsLegal genesis) (sym (steps_push before e)) (legal_more genesis d (steps_of before) (stored_in e) so_far.replayed so_far.log.legal legal);
      };
      replayed = left ∙ replay_more genesis d (steps_of before) (stored_in e) so_far.replayed ∙ ap (replay genesis) (sym (steps_push before e));
    }

pub judged_all : (genesis : Header) (payloads : List (List ℕ)) (k : ℕ) (d : Durable) → length payloads ≤ k → IsJudged genesis payloads k d → (entries : List Entry) × IsOldLog genesis payloads entries
judged_all genesis payloads k d all judged = (judged.entries, subst (λ (l : List (List ℕ)). IsOldLog genesis l judged.entries) (take_all k payloads all) judged.log)

-- a payload that fails after legal ones is the first that does
module _ (genesis : Header) (told now : Option (List ℕ)) (payloads list : List (List ℕ)) (k : ℕ) (d : Durable) (same : now ≡ told) (lists : list ≡ payloads) (below : k < length payloads) (judged : (bs : List ℕ) → told ≡ Some bs → IsJudged genesis payloads k d) where
  pub judge_fault : (e : LogError) → IsOldReadRefusal d now list k e → IsOldStepsRefusal genesis told payloads e
  judge_fault Memory fault = tt
  judge_fault Device fault = tt
  judge_fault (BadEntry j) fault =
      some_if told (λ _. IsFirstOldUnreadable genesis payloads j) (λ bs is.
      let none : (e : Entry) → IsOldEntryAt list k e → ⊥ = if_some now (λ _. (e : Entry) → IsOldEntryAt list k e → ⊥) bs fault.1 (same ∙ is) in
      let so_far = judged bs is in
      subst (λ (n : ℕ). IsFirstOldUnreadable genesis payloads n) (sym fault.0)
      (record {
        entries = so_far.entries;
        before = record { place = below; log = so_far.log };
        unreadable = subst (λ (l : List (List ℕ)). (e : Entry) → IsOldEntryAt l k e → ⊥) lists none;
      }))
  judge_fault (IllegalLog j) fault =
      some_if told (λ _. IsFirstOldIllegal genesis payloads j) (λ bs is.
      let found = if_some now (λ _. (e : Entry) × IsOldEntryAt list k e × (IsLegalEntry d (stored_in e).voted e.block e.parent → ⊥)) bs fault.1 (same ∙ is) in
      let so_far = judged bs is in
      let e = found.0 in
      subst (λ (n : ℕ). IsFirstOldIllegal genesis payloads n) (sym fault.0)
      (record {
        entries = so_far.entries;
        before = record { place = below; log = so_far.log };
        entry = e;
        here = subst (λ (l : List (List ℕ)). IsOldEntryAt l k e) lists found.1;
        illegal = λ all. found.2 (legal_last genesis d (steps_of so_far.entries) (stored_in e) so_far.replayed (subst (IsLegal genesis) (steps_push so_far.entries e) all));
      }))
  judge_fault NotAJournal fault = absurd fault
  judge_fault Damaged fault = absurd fault
  judge_fault Full fault = absurd fault
  judge_fault Stopped fault = absurd fault
  judge_fault NoSuchEntry fault = absurd fault

-- ---- what was judged does not fail when it is read again

-- legal entries are legal one by one
judged_legal : (genesis : Header) (payloads : List (List ℕ)) (all before : List Entry) (k : ℕ) (d : Durable) (e : Entry) → IsOldLog genesis payloads all → AreOldTexts (take k payloads) before
    → d ≡ replay genesis (steps_of before) → IsOldEntryAt payloads k e → IsLegalEntry d (stored_in e).voted e.block e.parent
judged_legal genesis payloads all before k d e log so_far replayed here =
    let same : take (k + 1) all ≡ before ++ e ∷ [] =
    one_old_list (take (k + 1) payloads) (take (k + 1) all) (before ++ e ∷ []) (old_texts_take payloads all (k + 1) log.texts) (old_texts_more payloads k before e so_far here) in
    let steps : take (k + 1) (steps_of all) ≡ steps_of before ++ stored_in e ∷ [] = take-map stored_in (k + 1) all ∙ ap steps_of same ∙ steps_push before e in
    legal_last genesis d (steps_of before) (stored_in e) replayed
    (subst (IsLegal genesis) steps (legal_take_from (first_durable genesis) (steps_of all) (k + 1) log.legal))

untold : (told : Option (List ℕ)) → IfSome told (λ _. ⊥) → told ≡ None
untold None none = refl
untold (Some bs) none = absurd none

module _ (genesis : Header) (told now : Option (List ℕ)) (payloads list : List (List ℕ)) (k : ℕ) (d : Durable) (steps : List Stored) (same : now ≡ told) (lists : list ≡ payloads) (below : k < length payloads) (replayed : d ≡ replay genesis steps)
    (judged : (bs : List ℕ) → told ≡ Some bs → (entries : List Entry) × IsOldLog genesis payloads entries)
    (copied : (bs : List ℕ) → told ≡ Some bs → (entries : List Entry) × AreOldTexts (take k payloads) entries × (steps ≡ steps_of entries)) where
  pub copy_fault : (e : LogError) → IsOldReadRefusal d now list k e → e ≢ Memory → e ≢ Device → GivesOther told e
  copy_fault Memory fault memory device = absurd (memory refl)
  copy_fault Device fault memory device = absurd (device refl)
  copy_fault (BadEntry j) fault memory device = record {
    untold = untold told (some_if told (λ _. ⊥) (λ bs is.
        let found = old_at payloads (judged bs is).0 k below (judged bs is).1.texts in
        if_some now (λ _. (e : Entry) → IsOldEntryAt list k e → ⊥) bs fault.1 (same ∙ is) found.0 (subst (λ (l : List (List ℕ)). IsOldEntryAt l k found.0) (sym lists) found.1)));
    numbered = (j, inl refl);
  }
  copy_fault (IllegalLog j) fault memory device = record {
    untold = untold told (some_if told (λ _. ⊥) (λ bs is.
        let found = if_some now (λ _. (e : Entry) × IsOldEntryAt list k e × (IsLegalEntry d (stored_in e).voted e.block e.parent → ⊥)) bs fault.1 (same ∙ is) in
        let so_far = copied bs is in
        found.2 (judged_legal genesis payloads (judged bs is).0 so_far.0 k d found.0 (judged bs is).1 so_far.1 (replayed ∙ ap (replay genesis) so_far.2)
        (subst (λ (l : List (List ℕ)). IsOldEntryAt l k found.0) lists found.1))));
    numbered = (j, inr refl);
  }
  copy_fault NotAJournal fault memory device = absurd fault
  copy_fault Damaged fault memory device = absurd fault
  copy_fault Full fault memory device = absurd fault
  copy_fault Stopped fault memory device = absurd fault
  copy_fault NoSuchEntry fault memory device = absurd fault

-- a log with room that runs refuses for memory or the device alone
pub append_fault : {D : Type 0} (log : LogState D) (e : LogError) → log.stopped ≡ false → length log.steps < 4096 → IsLogAppendRefusal log e → e ≢ Memory → e ≢ Device → ⊥
append_fault log Memory running room fault memory device = memory refl
append_fault log Device running room fault memory device = device refl
append_fault log Full running room fault memory device = let full = fault.1 in omega arith
append_fault log Stopped running room fault memory device = false≢true (sym running ∙ fault)
append_fault log (BadEntry j) running room fault memory device = fault
append_fault log (IllegalLog j) running room fault memory device = fault
append_fault log NotAJournal running room fault memory device = fault
append_fault log Damaged running room fault memory device = fault
append_fault log NoSuchEntry running room fault memory device = fault
