-- The order of votes is total, and tells votes apart.
use Rattle.std.proofs.Common.{◌≡◌, ◌∙◌, ℕ, List, refl, ap}
use Rattle.std.specs.Cmp.{IsTotalOrder}
use Rattle.std.specs.Ordering.{ordering_then}
use Rattle.std.specs.declared.cmp.Ordering.{Ordering}
use Rattle.std.specs.declared.cmp.Ordering.TheVariants.{Less, Equal, Greater}
use Rattle.std.proofs.lemmas.Cmp.{nat_cmp_total, nat_list_cmp_total, on_total, then_total}
use Rattle.std.proofs.lemmas.Map.Lookups.{CmpEqualImpliesEq, exact_unsigned, exact_bytes}
use Rattle.certificates.specs.declared.vote.SignedVote.{SignedVote}
use Rattle.certificates.specs.VoteOrder.{vote_cmp}

pub votes_total : IsTotalOrder vote_cmp
votes_total =
    then_total (on_total (λ (v : SignedVote). v.replica) nat_cmp_total) (
    then_total (on_total (λ (v : SignedVote). v.view) nat_cmp_total) (
    then_total (on_total (λ (v : SignedVote). v.id) nat_list_cmp_total) (
    then_total (on_total (λ (v : SignedVote). v.key) nat_cmp_total) (on_total (λ (v : SignedVote). v.signature) nat_list_cmp_total))))

pub both_equal : (a b : Ordering) → ordering_then a b ≡ Equal → (a ≡ Equal) × (b ≡ Equal)
both_equal Less b e = absurd cc
both_equal Equal b e = (refl, e)
both_equal Greater b e = absurd cc

abbrev vote_from : ℕ → ℕ → List ℕ → ℕ → List ℕ → SignedVote
vote_from replica view id key signature = record { replica = replica; view = view; id = id; key = key; signature = signature }

same_vote : (v w : SignedVote) → v.replica ≡ w.replica → v.view ≡ w.view → v.id ≡ w.id → v.key ≡ w.key → v.signature ≡ w.signature → v ≡ w
same_vote v w a b c d e =
    ap (λ (x : ℕ). vote_from x v.view v.id v.key v.signature) a ∙ ap (λ (x : ℕ). vote_from w.replica x v.id v.key v.signature) b
    ∙ ap (λ (x : List ℕ). vote_from w.replica w.view x v.key v.signature) c ∙ ap (λ (x : ℕ). vote_from w.replica w.view w.id x v.signature) d
    ∙ ap (vote_from w.replica w.view w.id w.key) e

pub votes_apart : CmpEqualImpliesEq vote_cmp
votes_apart v w e =
    let a = both_equal _ _ e in
    let b = both_equal _ _ a.1 in
    let c = both_equal _ _ b.1 in
    let d = both_equal _ _ c.1 in
    same_vote v w (exact_unsigned _ _ a.0) (exact_unsigned _ _ b.0) (exact_bytes _ _ c.0) (exact_unsigned _ _ d.0) (exact_bytes _ _ d.1)
