-- What a store keeps once a word is stored, or the disk failed meanwhile.
use Rattle.std.proofs.Common.{◌≡◌, ◌≤◌, ◌↔◌, ℕ, List, [], ◌∷◌, ◌++◌, ◌+◌, length, Option, Some, None, IfSome, IsSome, Bool, true, false, inl, inr, refl, sym, ◌∙◌, ap, subst, ⊎_elim, arith, length-append}
use Rattle.std.proofs.lemmas.Bool.{false≢true}
use Rattle.stable_log.proofs.Told.{some_if, if_some}
use Rattle.stable_log.specs.Crash.{LeavesOnly}
use Rattle.stable_log.specs.Image.{IsBeforeOrAfter, LeavesList, StandsFor}
use Rattle.stable_log.specs.State.{JournalState}
use Rattle.stable_log.specs.declared.error.JournalError.{JournalError}
use Rattle.stable_log.specs.declared.error.JournalError.TheVariants as journal
use Rattle.handover_folder.specs.State.{IsStore}
use Rattle.handover_folder.specs.Words.{Word, Endorsed, Over, IsBeforeOrAfterWord, IsSaid, IsWordOf, Leaves, LeavesWord, MayFollow, Said, Says, SaysWord, with_word, word_text, words_of}
use Rattle.handover_folder.proofs.WordLaws.{grown, whole_with}
use Rattle.handover_folder.proofs.HistoryLaws.{keeps}

-- what holds where a disk tells its bytes holds where it tells them later
still_told : (old new : Option (List ℕ)) (P : Type 0) → (IsSome new ↔ IsSome old) → IfSome old (λ _. P) → IfSome new (λ _. P)
still_told old None P tells holds = tt
still_told (Some x) (Some y) P tells holds = holds
still_told None (Some y) P tells holds = absurd (false≢true (tells.0 refl))

-- a word that may be said next is stored behind the others
module _ (said : Said) (word : Word) (entry : List ℕ) (before : List (List ℕ)) (is : IsWordOf entry word) (follows : MayFollow said word) (whole : IsSaid said) (listed : before ≡ words_of said) where
  texts_after : before ++ entry ∷ [] ≡ words_of (with_word said word)
  texts_after = (λ i. listed i ++ is.text i ∷ []) ∙ grown said word follows

  says_before : (image : List ℕ) → StandsFor image before → Says image said
  says_before image stands = record { stands = subst (λ (l : List (List ℕ)). StandsFor image l) listed stands; whole = whole }

  says_after : (image : List ℕ) → StandsFor image (before ++ entry ∷ []) → Says image (with_word said word)
  says_after image stands = record { stands = subst (λ (l : List (List ℕ)). StandsFor image l) texts_after stands; whole = whole_with said word whole is.whole }

  says_either : (image : List ℕ) → IsBeforeOrAfter before entry image → IsBeforeOrAfterWord said word image
  says_either image (inl stands) = inl (says_before image stands)
  says_either image (inr stands) = inr (follows, says_after image stands)

  keeps_endorsed : (image bytes : List ℕ) → said.endorsed ≡ Some bytes → IsBeforeOrAfterWord said word image → SaysWord image (Endorsed bytes)
  keeps_endorsed image bytes has (inl says) = (said, says, has)
  keeps_endorsed image bytes has (inr after) = (with_word said word, after.1, keeps said word (Endorsed bytes) follows has)

-- the word that comes next leaves a journal that has not gone over
not_gone : (said : Said) (word : Word) → MayFollow said word → said.gone ≡ None
not_gone said (Endorsed bytes) follows = follows.1
not_gone said (Over word) follows = follows

module _ {D : Type 0} (bytes : D → Option (List ℕ)) (images : D → List ℕ → Type 0) (moment : D → ℕ) (images_since : D → ℕ → List ℕ → Type 0) (old new : D) (before after : List (List ℕ)) (said : Said) (word : Word) (entry : List ℕ)
    (stopped : Bool) (store : IsStore (bytes old) (images old) before said stopped) (is : IsWordOf entry word) (follows : MayFollow said word) (tells : IsSome (bytes new) ↔ IsSome (bytes old)) where
  -- a crash at any moment leaves what was there, or the word too
  pub run_words : IfSome (bytes old) (λ _. LeavesOnly moment images_since old new (IsBeforeOrAfter before entry)) → IfSome (bytes old) (λ _. LeavesOnly moment images_since old new (IsBeforeOrAfterWord said word))
  run_words run = some_if (bytes old) (λ _. LeavesOnly moment images_since old new (IsBeforeOrAfterWord said word)) (λ x at.
      let ran : LeavesOnly moment images_since old new (IsBeforeOrAfter before entry) = if_some (bytes old) (λ _. LeavesOnly moment images_since old new (IsBeforeOrAfter before entry)) x run at in
      let listed : before ≡ words_of said = if_some (bytes old) (λ _. before ≡ words_of said) x store.listed at in
      record {
        later = ran.later;
        each = λ image left. says_either said word entry before is follows store.whole listed image (ran.each image left);
        before = λ t image le left. ⊎_elim (λ o. inl o) (λ p. inr (says_either said word entry before is follows store.whole listed image p)) (ran.before t image le left);
      })

  pub leaves_words : IfSome (bytes old) (λ _. after ≡ before ++ entry ∷ []) → IfSome (bytes old) (λ _. LeavesList (images new) after) → IfSome (bytes old) (λ _. Leaves (images new) (with_word said word))
  leaves_words ok durable = some_if (bytes old) (λ _. Leaves (images new) (with_word said word)) (λ x at image left.
      let listed : before ≡ words_of said = if_some (bytes old) (λ _. before ≡ words_of said) x store.listed at in
      let now : after ≡ before ++ entry ∷ [] = if_some (bytes old) (λ _. after ≡ before ++ entry ∷ []) x ok at in
      let stands : StandsFor image after = if_some (bytes old) (λ _. LeavesList (images new) after) x durable at image left in
      says_after said word entry before is follows store.whole listed image (subst (λ (l : List (List ℕ)). StandsFor image l) now stands))

  -- the store with the word
  pub stored : IfSome (bytes old) (λ _. after ≡ before ++ entry ∷ []) → length after ≡ length before + 1 → IfSome (bytes old) (λ _. LeavesList (images new) after) → IsStore (bytes new) (images new) after (with_word said word) false
  stored ok grows durable =
      let leaves : IfSome (bytes new) (λ _. Leaves (images new) (with_word said word)) = still_told (bytes old) (bytes new) (Leaves (images new) (with_word said word)) tells (leaves_words ok durable) in
      record {
        whole = whole_with said word store.whole is.whole;
        counted = rw (← grown said word follows) (omega (arith, grows, store.counted, length-append (words_of said) (word_text word ∷ [])));
        listed = still_told (bytes old) (bytes new) (after ≡ words_of (with_word said word)) tells (some_if (bytes old) (λ _. after ≡ words_of (with_word said word)) (λ x at.
            if_some (bytes old) (λ _. after ≡ before ++ entry ∷ []) x ok at ∙ texts_after said word entry before is follows store.whole (if_some (bytes old) (λ _. before ≡ words_of said) x store.listed at)));
        durable = λ _. leaves;
        endorsed = each (with_word said word) leaves;
        unsaid = λ stopped. absurd (false≢true stopped);
      }
    where
      each : (all : Said) → IfSome (bytes new) (λ _. Leaves (images new) all) → IfSome all.endorsed (λ e. IfSome (bytes new) (λ _. LeavesWord (images new) (Endorsed e)))
      each all leaves = of all.endorsed refl
        where
          of : (endorsed : Option (List ℕ)) → all.endorsed ≡ endorsed → IfSome endorsed (λ e. IfSome (bytes new) (λ _. LeavesWord (images new) (Endorsed e)))
          of None has = tt
          of (Some e) has = some_if (bytes new) (λ _. LeavesWord (images new) (Endorsed e)) (λ x at image left.
              (all, if_some (bytes new) (λ _. Leaves (images new) all) x leaves at image left, has))

  -- .. and without it, stopped
  failed : length after ≡ length before → (after ≡ before) → ((t : ℕ) (c : List ℕ) → t ≤ moment new → images new c → images_since new t c)
      → IfSome (bytes old) (λ _. LeavesOnly moment images_since old new (IsBeforeOrAfter before entry)) → IsStore (bytes new) (images new) after said true
  failed count same counts_now run = record {
    whole = store.whole;
    counted = count ∙ store.counted;
    listed = still_told (bytes old) (bytes new) (after ≡ words_of said) tells (some_if (bytes old) (λ _. after ≡ words_of said) (λ x at. same ∙ if_some (bytes old) (λ _. before ≡ words_of said) x store.listed at));
    durable = λ running. absurd (false≢true (sym running));
    endorsed = of said.endorsed refl;
    unsaid = λ _. not_gone said word follows;
  }
    where
      of : (endorsed : Option (List ℕ)) → said.endorsed ≡ endorsed → IfSome endorsed (λ e. IfSome (bytes new) (λ _. LeavesWord (images new) (Endorsed e)))
      of None has = tt
      of (Some e) has = still_told (bytes old) (bytes new) (LeavesWord (images new) (Endorsed e)) tells (some_if (bytes old) (λ _. LeavesWord (images new) (Endorsed e)) (λ x at image left.
          let ran : LeavesOnly moment images_since old new (IsBeforeOrAfterWord said word) = if_some (bytes old) (λ _. LeavesOnly moment images_since old new (IsBeforeOrAfterWord said word)) x (run_words run) at in
          let listed : before ≡ words_of said = if_some (bytes old) (λ _. before ≡ words_of said) x store.listed at in
          keeps_endorsed said word entry before is follows store.whole listed image e has (ran.each image (counts_now (moment old) image ran.later left))))

either : (e : JournalError) (P : Type 0) → (e ≡ journal.Device → P) → ((e ≡ journal.Device → ⊥) → P) → P
either journal.Device P device other = device refl
either journal.Memory P device other = other (λ is. absurd (cc is))
either journal.NotAJournal P device other = other (λ is. absurd (cc is))
either journal.Damaged P device other = other (λ is. absurd (cc is))
either journal.Full P device other = other (λ is. absurd (cc is))
either journal.TooLong P device other = other (λ is. absurd (cc is))
either journal.Stopped P device other = other (λ is. absurd (cc is))
either journal.NoSuchEntry P device other = other (λ is. absurd (cc is))

-- .. and so, if the journal did not take the word, for whatever reason
pub unstored : {D : Type 0} (bytes : D → Option (List ℕ)) (images : D → List ℕ → Type 0) (moment : D → ℕ) (images_since : D → ℕ → List ℕ → Type 0) (old new : JournalState D) (said : Said) (word : Word) (entry : List ℕ)
    → IsStore (bytes old.disk) (images old.disk) old.payloads said old.stopped → IsWordOf entry word → MayFollow said word → (IsSome (bytes new.disk) ↔ IsSome (bytes old.disk))
    → ((t : ℕ) (c : List ℕ) → t ≤ moment new.disk → images new.disk c → images_since new.disk t c)
    → IfSome (bytes old.disk) (λ _. LeavesOnly moment images_since old.disk new.disk (IsBeforeOrAfter old.payloads entry))
    → (e : JournalError) → (e ≡ journal.Device → (new.payloads ≡ old.payloads) × (new.stopped ≡ true)) → ((e ≡ journal.Device → ⊥) → new ≡ old)
    → IsStore (bytes new.disk) (images new.disk) new.payloads said new.stopped
unstored {D} bytes images moment images_since old new said word entry store is follows tells counts_now run e device other =
    either e (IsStore (bytes new.disk) (images new.disk) new.payloads said new.stopped)
    (λ failing. let after = device failing in
    subst (λ (b : Bool). IsStore (bytes new.disk) (images new.disk) new.payloads said b) (sym after.1)
    (failed bytes images moment images_since old.disk new.disk old.payloads new.payloads said word entry old.stopped store is follows tells (ap length after.0) after.0 counts_now run))
    (λ refused. subst (λ (j : JournalState D). IsStore (bytes j.disk) (images j.disk) j.payloads said j.stopped) (sym (other refused)) store)
