-- The vote that a log has in a view.
use Rattle.std.proofs.Common.{◌≡◌, ◌+◌, ◌<◌, ◌≤◌, inl, inr, ℕ, zero, suc, List, [], ◌∷◌, true, false, Option, Some, None, get_or, length, refl, sym, ap, subst, ◌∙◌, arith}
use Rattle.std.specs.Prelude.{option_map, slice_get}
use Rattle.std.proofs.lemmas.Bool.{cases_lt, false≢true}
use Rattle.blocks.specs.Replica.{Stored}
use Rattle.certificates.specs.declared.vote.SignedVote.{SignedVote}
use Rattle.stable_log.proofs.Told.{mapped_some, some_if}
use Rattle.log_format.specs.EntryText.{Entry, is_signed, own_vote_of, stored_in}
use Rattle.log_format.specs.declared.entry.KeyedSignature.{KeyedSignature}
use Rattle.vote_log.specs.Logs.{LogState, steps_of}
use Rattle.vote_log.specs.declared.log_error.LogError.TheVariants.{BadEntry}
use Rattle.vote_desk.specs.declared.reply.Receipt.{Receipt}
use Rattle.vote_desk.specs.Receipts.{IsReceiptOf}
use Rattle.vote_desk.specs.Votes.{HasNoVote, IsVoteAt, IsVoteInRefusal, IsVoteOfView}

-- ---- the place

pub within : (xs : List Stored) (k : ℕ) (x : Stored) → slice_get xs k ≡ Some x → k < length xs
within [] k x is = absurd (cc is)
within (y ∷ ys) zero x is = omega arith
within (y ∷ ys) (suc k) x is = let rest = within ys k x is in omega arith

-- after all entries were looked at
pub none_at_all : (view : ℕ) (steps : List Stored) (until : ℕ) → length steps ≤ until → ((j : ℕ) → j < until → IsVoteAt view steps j → ⊥) → HasNoVote view steps
none_at_all view steps until all none k here = none k (let below = within steps k here.0 here.1 in omega arith) here

got : (xs : List Stored) (k : ℕ) (x d : Stored) → slice_get xs k ≡ Some x → get_or xs k d ≡ x
got [] k x d is = absurd (cc is)
got (y ∷ ys) zero x d is = let same : y ≡ x = cc is in same
got (y ∷ ys) (suc k) x d is = got ys k x d is

-- the entry that was looked at is none
pub not_here : (view : ℕ) (steps : List Stored) (k : ℕ) (x : Stored) → x ≡ get_or steps k x → (IsVoteOfView view x → ⊥) → IsVoteAt view steps k → ⊥
not_here view steps k x is not here = not (subst (IsVoteOfView view) (sym (is ∙ got steps k here.0 x here.1)) here.2)

-- one entry more was looked at
pub looked_at : (view : ℕ) (steps : List Stored) (k : ℕ) → ((j : ℕ) → j < k → IsVoteAt view steps j → ⊥) → (IsVoteAt view steps k → ⊥) → (j : ℕ) → j < k + 1 → IsVoteAt view steps j → ⊥
looked_at view steps k before now j below here = elim (cases_lt j k) [
  | inl l ↦ before j l here
  | inr r ↦ let same : j ≡ k = omega arith in now (subst (IsVoteAt view steps) same here)
]

-- ---- the entry

step_at : (es : List Entry) (k : ℕ) (e : Entry) → slice_get es k ≡ Some e → slice_get (steps_of es) k ≡ Some (stored_in e)
step_at [] k e is = absurd (cc is)
step_at (x ∷ xs) zero e is = let same : x ≡ e = cc is in ap (λ (y : Entry). Some (stored_in y)) same
step_at (x ∷ xs) (suc k) e is = step_at xs k e is

signed_there : {Y : Type 0} (f : KeyedSignature → Y) (own : Option KeyedSignature) → is_signed own ≡ true → option_map f own ≡ None → ⊥
signed_there f (Some s) signed none = cc none
signed_there f None signed none = false≢true signed

some_same : {X : Type 0} (x y : X) (o : Option X) → o ≡ Some x → o ≡ Some y → x ≡ y
some_same x y o is are = let both : Some x ≡ Some y = sym is ∙ are in cc both

module _ (replica : ℕ) (entries : List Entry) (steps : List Stored) (number : ℕ) (e : Entry) (listed : steps ≡ steps_of entries) (at : slice_get entries number ≡ Some e) where
  stored_here : slice_get steps number ≡ Some (stored_in e)
  stored_here = ap (λ (l : List Stored). slice_get l number) listed ∙ step_at entries number e at

  -- the entry of a vote has one
  pub has_own : (x : Stored) → slice_get steps number ≡ Some x → x.voted ≡ true → own_vote_of e replica ≡ None → ⊥
  has_own x here voted none =
      let same : x ≡ stored_in e = some_same x (stored_in e) (slice_get steps number) here stored_here in
      signed_there _ e.own (sym (ap (λ (y : Stored). y.voted) same) ∙ voted) none

  -- .. and it is that of its receipt
  pub is_its_receipt : (r : Receipt) → r.number ≡ number → own_vote_of e replica ≡ Some r.vote → IsReceiptOf 0 steps r
  is_its_receipt r is own =
      let kept = mapped_some _ e.own r.vote own in
      record {
        behind = omega arith;
        entry = stored_in e;
        at = ap (slice_get steps) is ∙ stored_here;
        vote = record {
          voted = ap is_signed kept.1;
          view = ap (λ (v : SignedVote). v.view) kept.2;
          id = ap (λ (v : SignedVote). v.id) kept.2;
        };
      }

-- ---- refusals

-- the entry that is the vote is not as it was stored, which no disk that tells its bytes gives
pub bad_entry : {D : Type 0} (told : Option (List ℕ)) (log : LogState D) (view k : ℕ) → IsVoteAt view log.steps k → (log.stopped ≡ false) × (k < length log.steps)
    → ((bs : List ℕ) → told ≡ Some bs → ⊥) → IsVoteInRefusal told log view (BadEntry k)
bad_entry told log view k here may not = (k, here, (may, refl, some_if told (λ _. ⊥) not))
