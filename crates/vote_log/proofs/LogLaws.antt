-- Entries of a log, one after the other.
use Rattle.std.proofs.Common.{◌≡◌, ◌↔◌, ℕ, zero, suc, ◌+◌, ◌<◌, List, [], ◌∷◌, ◌++◌, length, take, Some, refl, sym, ap, subst, ◌∙◌, add-one, length-append}
use Rattle.std.specs.Prelude.{map, slice_get}
use Rattle.std.specs.List.{All}
use Rattle.std.proofs.lemmas.List.Elements.{All-head, All-tail, All-map, All-push}
use Rattle.blocks.specs.Headers.{Header}
use Rattle.blocks.specs.Replica.{Stored}
use Rattle.blocks.specs.Replay.{Durable, IsLegal, IsLegalEntry, IsLegalFrom, first_durable, replay, replay_entry, replay_from}
use Rattle.log_format.specs.EntryText.{Entry, IsEntry, IsEntryOf, entry_text, stored_in}
use Rattle.log_format.specs.EntryReading.{entry_in}
use Rattle.vote_log.specs.Logs.{AreListed, AreTexts, IsEntryAt, IsEntryText, IsFirstIllegal, IsFirstUnreadable, IsLogUpTo, steps_of, texts_of}
use Rattle.log_format.proofs.EntryLaws.{entry_again}

-- ---- legal lists

legal_more_from : (d : Durable) (xs : List Stored) (x : Stored) → IsLegalFrom d xs → IsLegalEntry (replay_from d xs) x.voted x.block x.parent → IsLegalFrom d (xs ++ x ∷ [])
legal_more_from d [] x so_far here = (here, tt)
legal_more_from d (y ∷ ys) x so_far here = (so_far.0, legal_more_from (replay_entry d y.voted y.block y.parent) ys x so_far.1 here)

legal_last_from : (d : Durable) (xs : List Stored) (x : Stored) → IsLegalFrom d (xs ++ x ∷ []) → IsLegalEntry (replay_from d xs) x.voted x.block x.parent
legal_last_from d [] x legal = legal.0
legal_last_from d (y ∷ ys) x legal = legal_last_from (replay_entry d y.voted y.block y.parent) ys x legal.1

replay_more_from : (d : Durable) (xs : List Stored) (x : Stored) → replay_from d (xs ++ x ∷ []) ≡ replay_entry (replay_from d xs) x.voted x.block x.parent
replay_more_from d [] x = refl
replay_more_from d (y ∷ ys) x = replay_more_from (replay_entry d y.voted y.block y.parent) ys x

-- a legal entry goes on a legal list
pub legal_more : (genesis : Header) (d : Durable) (xs : List Stored) (x : Stored) → d ≡ replay genesis xs → IsLegal genesis xs → IsLegalEntry d x.voted x.block x.parent → IsLegal genesis (xs ++ x ∷ [])
legal_more genesis d xs x is so_far here =
    legal_more_from (first_durable genesis) xs x so_far (subst (λ (s : Durable). IsLegalEntry s x.voted x.block x.parent) is here)

pub legal_last : (genesis : Header) (d : Durable) (xs : List Stored) (x : Stored) → d ≡ replay genesis xs → IsLegal genesis (xs ++ x ∷ []) → IsLegalEntry d x.voted x.block x.parent
legal_last genesis d xs x is legal =
    subst (λ (s : Durable). IsLegalEntry s x.voted x.block x.parent) (sym is) (legal_last_from (first_durable genesis) xs x legal)

pub replay_more : (genesis : Header) (d : Durable) (xs : List Stored) (x : Stored) → d ≡ replay genesis xs → replay_entry d x.voted x.block x.parent ≡ replay genesis (xs ++ x ∷ [])
replay_more genesis d xs x is =
    ap (λ (s : Durable). replay_entry s x.voted x.block x.parent) is ∙ sym (replay_more_from (first_durable genesis) xs x)

-- ---- texts of entries

pub map-push : {X Y : Type 0} (f : X → Y) (xs : List X) (x : X) → map f (xs ++ x ∷ []) ≡ map f xs ++ f x ∷ []
map-push f [] x = refl
map-push f (y ∷ ys) x = ap (λ l. f y ∷ l) (map-push f ys x)

pub take-more : (xs : List (List ℕ)) (x : List ℕ) (k : ℕ) → slice_get xs k ≡ Some x → take (suc k) xs ≡ take k xs ++ x ∷ []
take-more [] x k is = absurd (cc is)
take-more (y ∷ xs) x zero is = let same : y ≡ x = cc is in ap (λ (l : List ℕ). l ∷ []) same
take-more (y ∷ xs) x (suc k) is = ap (λ (l : List (List ℕ)). y ∷ l) (take-more xs x k is)

-- the entry of a text is that of its reading
pub is_entry_text : (text : List ℕ) (e : Entry) → IsEntryOf text e → IsEntryText text
is_entry_text text e is = subst (IsEntryOf text) (sym (entry_again text e is).1) is

pub steps_push : (entries : List Entry) (e : Entry) → steps_of (entries ++ e ∷ []) ≡ steps_of entries ++ stored_in e ∷ []
steps_push entries e = map-push stored_in entries e

pub texts_push : (entries : List Entry) (e : Entry) → texts_of (entries ++ e ∷ []) ≡ texts_of entries ++ entry_text e ∷ []
texts_push entries e = map-push entry_text entries e

pub entries_push : (payloads : List (List ℕ)) (text : List ℕ) (e : Entry) → IsEntryOf text e → map entry_in (payloads ++ text ∷ []) ≡ map entry_in payloads ++ e ∷ []
entries_push payloads text e is = map-push entry_in payloads text ∙ ap (λ (x : Entry). map entry_in payloads ++ x ∷ []) (entry_again text e is).1

-- one entry more
pub texts_and_one : (payloads : List (List ℕ)) (steps : List Stored) (text : List ℕ) (e : Entry) → AreTexts payloads steps → IsEntryOf text e → AreTexts (payloads ++ text ∷ []) (steps ++ stored_in e ∷ [])
texts_and_one payloads steps text e so_far is = record {
  each = All-push IsEntryText payloads text so_far.each (is_entry_text text e is);
  same = ap (λ (l : List Stored). l ++ stored_in e ∷ []) so_far.same ∙ sym (steps_push (map entry_in payloads) e) ∙ ap steps_of (sym (entries_push payloads text e is));
}

pub texts_more : (payloads : List (List ℕ)) (k : ℕ) (steps : List Stored) (e : Entry) → AreTexts (take k payloads) steps → IsEntryAt payloads k e → AreTexts (take (k + 1) payloads) (steps ++ stored_in e ∷ [])
texts_more payloads k steps e so_far here =
    subst (λ (l : List (List ℕ)). AreTexts l (steps ++ stored_in e ∷ [])) (sym (ap (λ (n : ℕ). take n payloads) (add-one k) ∙ take-more payloads here.text k here.at))
    (texts_and_one (take k payloads) steps here.text e so_far here.entry)

-- texts are those of their entries
pub texts_are : (payloads : List (List ℕ)) → All IsEntryText payloads → payloads ≡ texts_of (map entry_in payloads)
texts_are [] each = refl
texts_are (p ∷ ps) each =
    let here = All-head IsEntryText p ps each in
    let rest = texts_are ps (All-tail IsEntryText p ps each) in
    ap (λ (t : List ℕ). t ∷ ps) here.text ∙ ap (λ (l : List (List ℕ)). entry_text (entry_in p) ∷ l) rest

pub entries_are : (payloads : List (List ℕ)) → All IsEntryText payloads → All IsEntry (map entry_in payloads)
entries_are payloads each = All-map IsEntry entry_in payloads (λ k d below. (each k d below).entry)

-- the entries that were read before one
pub up_to : (genesis : Header) (payloads : List (List ℕ)) (k : ℕ) (steps : List Stored) → k < length payloads → AreTexts (take k payloads) steps → IsLegal genesis steps → IsLogUpTo genesis payloads k (map entry_in (take k payloads))
up_to genesis payloads k steps below so_far legal = record {
  place = below;
  texts = texts_are (take k payloads) so_far.each;
  log = record { each = entries_are (take k payloads) so_far.each; legal = subst (IsLegal genesis) so_far.same legal };
}

pub first_unreadable : (genesis : Header) (payloads : List (List ℕ)) (k : ℕ) (steps : List Stored) → k < length payloads → AreTexts (take k payloads) steps → IsLegal genesis steps → ((e : Entry) → IsEntryAt payloads k e → ⊥) → IsFirstUnreadable genesis payloads k
first_unreadable genesis payloads k steps below so_far legal none = record {
  entries = map entry_in (take k payloads);
  before = up_to genesis payloads k steps below so_far legal;
  unreadable = none;
}

pub first_illegal : (genesis : Header) (payloads : List (List ℕ)) (k : ℕ) (steps : List Stored) (d : Durable) (e : Entry) → k < length payloads → AreTexts (take k payloads) steps → IsLegal genesis steps
    → d ≡ replay genesis steps → IsEntryAt payloads k e → (IsLegalEntry d (stored_in e).voted e.block e.parent → ⊥) → IsFirstIllegal genesis payloads k
first_illegal genesis payloads k steps d e below so_far legal is here fails =
    let before = map entry_in (take k payloads) in
    record {
      entries = before;
      before = up_to genesis payloads k steps below so_far legal;
      entry = e;
      here = here;
      illegal = λ all. fails (legal_last genesis d steps (stored_in e) is (subst (IsLegal genesis) (steps_push before e ∙ ap (λ (l : List Stored). l ++ stored_in e ∷ []) (sym so_far.same)) all));
    }

pub length-push : {X : Type 0} (xs : List X) (x : X) → length (xs ++ x ∷ []) ≡ length xs + 1
length-push xs x = length-append xs (x ∷ [])

pub listed_of : (payloads : List (List ℕ)) (steps : List Stored) → AreTexts payloads steps → AreListed (map entry_in payloads) steps
listed_of payloads steps texts = record { each = entries_are payloads texts.each; same = texts.same }

-- whether an entry is legal is asked of what replay leaves
pub legal_where : (genesis : Header) (d : Durable) (xs : List Stored) (x : Stored) → d ≡ replay genesis xs → IsLegal genesis xs
    → IsLegalEntry d x.voted x.block x.parent ↔ IsLegal genesis (xs ++ x ∷ [])
legal_where genesis d xs x is so_far = (legal_more genesis d xs x is so_far, legal_last genesis d xs x is)
