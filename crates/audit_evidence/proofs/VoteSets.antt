-- Sets of votes.
use Rattle.std.proofs.Common.{◌≡◌, ◌∙◌, ◌⊎◌, Bool, true, false, cond, inl, inr, refl, sym, subst, rules}
use Rattle.std.specs.BTreeSet.{BTreeSet, contains, Updates}
use Rattle.std.specs.BTreeMap.{is_at}
use Rattle.std.specs.List.{Contains}
use Rattle.std.proofs.lemmas.Map.Views.{btree_set_contains_iff, tells_apart}
use Rattle.audit_evidence.specs.Gathering.{Gains}
use Rattle.certificates.specs.declared.vote.SignedVote.{SignedVote}
use Rattle.certificates.specs.VoteOrder.{vote_cmp}
use Rattle.certificates.proofs.VoteOrder.{votes_total, votes_apart}

-- ---- a set of votes that took one more

by_case : (b : Bool) (P Q : Type 0) (old : Bool) → (b ≡ true → P) → (old ≡ true → Q) → cond b true old ≡ true → Q ⊎ P
by_case true P Q old p q e = inr (p refl)
by_case false P Q old p q e = inl (q e)

taken_in : (b old : Bool) → (b ≡ true) ⊎ (old ≡ true) → cond b true old ≡ true
taken_in true old w = refl
taken_in false old (inl e) = absurd cc
taken_in false old (inr e) = e

equal_here : (v : SignedVote) → is_at (vote_cmp v) v ≡ true
equal_here v = search (rules, votes_total)

pub gained : (old new : BTreeSet SignedVote) (v : SignedVote) → Updates vote_cmp old new v true → Gains old.keys new.keys (λ w. w ≡ v)
gained old new v updates w =
    let at_old = btree_set_contains_iff votes_total votes_apart old w in
    let at_new = btree_set_contains_iff votes_total votes_apart new w in
    let is = updates.0 w in (
      λ has. by_case (is_at (vote_cmp v) w) (w ≡ v) (Contains old.keys w) (contains vote_cmp old w) (λ e. sym (tells_apart votes_apart v w e)) at_old.0 (sym is ∙ at_new.1 has),
      λ has. at_new.0 (is ∙ taken_in (is_at (vote_cmp v) w) (contains vote_cmp old w) (elim has [
        | inl there ↦ inr (at_old.1 there)
        | inr same ↦ inl (subst (λ (x : SignedVote). is_at (vote_cmp v) x ≡ true) (sym same) (equal_here v))
      ])),
    )
