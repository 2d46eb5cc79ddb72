-- What is remembered of votes, before and after one more.
use Rattle.std.proofs.Common.{◌≡◌, ◌≢◌, ◌∙◌, ◌⊎◌, ℕ, List, Bool, true, false, Option, Some, None, IfSome, cond, inl, inr, refl, sym, ap, subst}
use Rattle.std.specs.Option.{option_flatten}
use Rattle.std.specs.BTreeMap.{BTreeMap, Updates, get, is_at}
use Rattle.std.proofs.lemmas.Map.Views.{tells_apart}
use Rattle.certificates.specs.declared.vote.SignedVote.{SignedVote}
use Rattle.certificates.specs.VoteOrder.{vote_cmp}
use Rattle.certificates.specs.Votes.{IsAnswerOn}
use Rattle.parallel_verify.specs.Answers.{AreAnswers, answer_in}
use Rattle.certificates.proofs.VoteOrder.{votes_apart}

-- an answer that is remembered is the vote's
pub recalled : (committee : List ℕ) (posted : List (SignedVote × Option Bool)) (v : SignedVote) (answer : Option Bool) → AreAnswers committee posted
    → answer ≡ answer_in posted v → IfSome answer (IsAnswerOn committee v)
recalled committee posted v None are is = tt
recalled committee posted v (Some b) are is = are v b (sym is)

-- ---- one more answer

pick : (at : Bool) (old : Option (Option Bool)) (added b : Bool) → option_flatten (cond at (Some (Some added)) old) ≡ Some b → ((at ≡ true) × (added ≡ b)) ⊎ (option_flatten old ≡ Some b)
pick true old added b e = inl (refl, cc)
pick false old added b e = inr e

pub still_answers : (committee : List ℕ) (old new : BTreeMap SignedVote (Option Bool)) (vote : SignedVote) (is_good : Bool) → Updates vote_cmp old new vote (Some (Some is_good))
    → AreAnswers committee old.entries → IsAnswerOn committee vote is_good → AreAnswers committee new.entries
still_answers committee old new vote is_good updates are is v b e =
    elim (pick (is_at (vote_cmp vote) v) (get vote_cmp old v) is_good b (sym (ap option_flatten (updates.0 v)) ∙ e)) [
      | inl here ↦ subst (λ (w : SignedVote). IsAnswerOn committee w b) (tells_apart votes_apart vote v here.0) (subst (λ (a : Bool). IsAnswerOn committee vote a) here.1 is)
      | inr there ↦ are v b there
    ]

is_elsewhere : (at : Bool) → (at ≡ true → ⊥) → at ≡ false
is_elsewhere true never = absurd (never refl)
is_elsewhere false never = refl

-- another vote is remembered as before
pub others_stay : (old new : BTreeMap SignedVote (Option Bool)) (vote : SignedVote) (added : Option (Option Bool)) → Updates vote_cmp old new vote added
    → (v : SignedVote) → v ≢ vote → answer_in new.entries v ≡ answer_in old.entries v
others_stay old new vote added updates v other =
    ap option_flatten (updates.2 v (is_elsewhere (is_at (vote_cmp vote) v) (λ e. other (sym (tells_apart votes_apart vote v e)))))

-- ---- one more vote, with no answer

by_place : (at : Bool) (old : Option (Option Bool)) → (at ≡ true → old ≡ None) → option_flatten (cond at (Some None) old) ≡ option_flatten old
by_place true old none = sym (ap option_flatten (none refl))
by_place false old none = refl

-- no answer is gained or lost
pub answers_stay : (old new : BTreeMap SignedVote (Option Bool)) (vote : SignedVote) → get vote_cmp old vote ≡ None → Updates vote_cmp old new vote (Some None)
    → (v : SignedVote) → answer_in new.entries v ≡ answer_in old.entries v
answers_stay old new vote none updates v =
    ap option_flatten (updates.0 v)
    ∙ by_place (is_at (vote_cmp vote) v) (get vote_cmp old v) (λ e. subst (λ (w : SignedVote). get vote_cmp old w ≡ None) (tells_apart votes_apart vote v e) none)

pub still_are : (committee : List ℕ) (old new : List (SignedVote × Option Bool)) → ((v : SignedVote) → answer_in new v ≡ answer_in old v) → AreAnswers committee old → AreAnswers committee new
still_are committee old new same are v b e = are v b (sym (same v) ∙ e)
