-- What recovery finds.
use Rattle.std.proofs.Common.{◌≡◌, ℕ, suc, zero, List, [], ◌∷◌, ◌++◌, ◌+◌, length, take, drop, Option, Some, IfSome, sym, ◌∙◌, ap, subst, arith, length-append, add-one}
use Rattle.std.specs.Prelude.{slice_get}
use Rattle.stable_log.proofs.Told.{some_if, if_some}
use Rattle.stable_log.specs.Image.{StandsFor}
use Rattle.handover_folder.specs.Refusals.{IsFirstRefused, IsNextRefusal, IsTakeRefusal, IsWordsRefusal}
use Rattle.handover_folder.specs.Words.{IsNextEntry, IsSaid, Said, Says, words_of}
use Rattle.handover_folder.specs.declared.error.WordError.{WordError}
use Rattle.handover_folder.specs.declared.error.WordError.TheVariants.{Memory, Device, NotAJournal, Damaged, UnknownKind, WrongLength, SecondWord, Stopped, Other, Gone}
use Rattle.handover_folder.proofs.WordLaws.{grown, says_one_thing, whole_with}

split_at : (xs : List (List ℕ)) (k : ℕ) (x : List ℕ) → slice_get xs k ≡ Some x → xs ≡ take k xs ++ x ∷ drop (suc k) xs
split_at [] k x is = absurd (cc is)
split_at (y ∷ xs) zero x is = let same : y ≡ x = cc is in ap (λ (v : List ℕ). v ∷ xs) same
split_at (y ∷ xs) (suc k) x is = ap (λ (l : List (List ℕ)). y ∷ l) (split_at xs k x is)

one_more : (xs : List (List ℕ)) (k : ℕ) (x : List ℕ) → slice_get xs k ≡ Some x → take (suc k) xs ≡ take k xs ++ x ∷ []
one_more [] k x is = absurd (cc is)
one_more (y ∷ xs) zero x is = let same : y ≡ x = cc is in ap (λ (v : List ℕ). v ∷ []) same
one_more (y ∷ xs) (suc k) x is = ap (λ (l : List (List ℕ)). y ∷ l) (one_more xs k x is)

-- what is said once the next entry is taken
module _ (before after : Said) (entry : List ℕ) (next : IsNextEntry before entry after) where
  pub taken_texts : words_of before ++ entry ∷ [] ≡ words_of after
  taken_texts = ap (λ (x : List ℕ). words_of before ++ x ∷ []) next.is.text ∙ grown before next.word next.follows ∙ ap words_of (sym next.then)

  pub taken_whole : IsSaid before → IsSaid after
  taken_whole whole = subst IsSaid (sym next.then) (whole_with before next.word whole next.is.whole)

  pub taken_count : (k : ℕ) → k ≡ length (words_of before) → k + 1 ≡ length (words_of after)
  taken_count k counted = rw (← taken_texts) (omega (arith, counted, length-append (words_of before) (entry ∷ [])))

  pub taken_read : (xs : List (List ℕ)) (k : ℕ) → slice_get xs k ≡ Some entry → take k xs ≡ words_of before → take (k + 1) xs ≡ words_of after
  taken_read xs k at read = rw (add-one) (one_more xs k entry at ∙ ap (λ (l : List (List ℕ)). l ++ entry ∷ []) read ∙ taken_texts)

-- an entry that can not be taken behind some words is the first such one
module _ (told now : Option (List ℕ)) (payloads list : List (List ℕ)) (k : ℕ) (said : Said) (entry : List ℕ) (same : now ≡ told) (same_list : list ≡ payloads) (whole : IsSaid said) (read : (bs : List ℕ) → told ≡ Some bs → take k payloads ≡ words_of said) (at : IfSome now (λ _. slice_get list k ≡ Some entry)) where
  -- the entry, where the disk tells it
  pub entry_at : (bs : List ℕ) → told ≡ Some bs → slice_get payloads k ≡ Some entry
  entry_at bs is = ap (λ (l : List (List ℕ)). slice_get l k) (sym same_list) ∙ if_some now (λ _. slice_get list k ≡ Some entry) bs at (same ∙ is)

  first_refused : (e : WordError) → IsNextRefusal said entry e → IfSome told (λ _. IsFirstRefused payloads e)
  first_refused e refused = some_if told (λ _. IsFirstRefused payloads e) (λ bs is. record {
    said = said;
    whole = whole;
    entry = entry;
    rest = drop (suc k) payloads;
    split = split_at payloads k entry (entry_at bs is) ∙ ap (λ (l : List (List ℕ)). l ++ entry ∷ drop (suc k) payloads) (read bs is);
    refused = refused;
  })

  pub take_refused : (e : WordError) → IsTakeRefusal said entry e → IsWordsRefusal told payloads e
  take_refused UnknownKind refused = first_refused UnknownKind refused
  take_refused WrongLength refused = first_refused WrongLength refused
  take_refused SecondWord refused = first_refused SecondWord refused
  take_refused Memory refused = tt
  take_refused Device refused = absurd refused
  take_refused NotAJournal refused = absurd refused
  take_refused Damaged refused = absurd refused
  take_refused Stopped refused = absurd refused
  take_refused Other refused = absurd refused
  take_refused Gone refused = absurd refused

  pub more_read : (after : Said) → IsNextEntry said entry after → (bs : List ℕ) → told ≡ Some bs → take (k + 1) payloads ≡ words_of after
  more_read after next bs is = taken_read said after entry next payloads k (entry_at bs is) (read bs is)

-- nothing else is in the journal
pub recovered_only : (told now : Option (List ℕ)) (list : List (List ℕ)) (said : Said) → now ≡ told → IfSome told (λ bytes. StandsFor bytes list) → IfSome now (λ _. list ≡ words_of said) → IsSaid said
    → IfSome told (λ bytes. (other : Said) → Says bytes other → other ≡ said)
recovered_only told now list said same stands listed whole =
    some_if told (λ bytes. (other : Said) → Says bytes other → other ≡ said) (λ bytes is other says.
    let list_is : list ≡ words_of said = if_some now (λ _. list ≡ words_of said) bytes listed (same ∙ is) in
    let here : StandsFor bytes (words_of said) = subst (λ (l : List (List ℕ)). StandsFor bytes l) list_is (if_some told (λ (x : List ℕ). StandsFor x list) bytes stands is) in
    says_one_thing bytes other said says (record { stands = here; whole = whole }))
