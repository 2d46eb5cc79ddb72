-- The locks that votes show.
use Rattle.std.proofs.Common.{◌≡◌, ℕ, ◌+◌, ◌<◌, ◌≤◌, List, length, get_or, take, sym, ◌∙◌, ap, subst, arith}
use Rattle.std.specs.List.{All}
use Rattle.std.proofs.lemmas.List.Elements.{All-more, All-nil, All-weaker}
use Rattle.blocks.specs.Headers.{Header}
use Rattle.certificates.specs.declared.vote.SignedVote.{SignedVote}
use Rattle.audit_evidence.specs.Evidence.{Evidence, IsEvidence}
use Rattle.culprit_search.specs.declared.locks.Locks.{Locks}
use Rattle.culprit_search.specs.Searches.{FirstHaveNoLockAbove, HasNoLockAbove, IsFoundAt, IsLockView, NoneIsAt, ShowsNoLock}
use Rattle.culprit_search.proofs.Breaches.{only_one}

-- a vote shows one lock at most
one_lock : (e : Evidence) (v : SignedVote) (m n : ℕ) → IsEvidence e → IsLockView e v m → IsLockView e v n → m ≡ n
one_lock e v m n is a b =
    let same : a.block ≡ b.block = only_one e.headers v.id v.view v.view a.block b.block is.headers_rise a.block_found b.block_found in
    let up = subst (λ (h : Header). IsFoundAt e.headers h.parent h.parent_view a.parent) same a.parent_found in
    let parents : a.parent ≡ b.parent = only_one e.headers b.block.parent b.block.parent_view b.block.parent_view a.parent b.parent is.headers_rise up b.parent_found in
    sym a.view_is ∙ ap (λ (h : Header). h.parent_view) parents ∙ b.view_is

-- none where the parent of its block is not in evidence
pub no_lock : (e : Evidence) (v : SignedVote) (b : Header) → IsEvidence e → IsFoundAt e.headers v.id v.view b → NoneIsAt e.headers b.parent b.parent_view → ShowsNoLock e v
no_lock e v b is found none view lock =
    let same : lock.block ≡ b = only_one e.headers v.id v.view v.view lock.block b is.headers_rise lock.block_found found in
    none lock.parent (subst (λ (h : Header). IsFoundAt e.headers h.parent h.parent_view lock.parent) same lock.parent_found)

pub lock_at_most : (e : Evidence) (v : SignedVote) (lock n : ℕ) → IsEvidence e → IsLockView e v lock → lock ≤ n → HasNoLockAbove e n v
lock_at_most e v lock n is this le view other = let same : view ≡ lock = one_lock e v view lock is other this in omega arith

-- no vote was looked at
pub none_looked_at : (e : Evidence) (own : List SignedVote) (locks : Locks) → locks.joined ≡ 0 → FirstHaveNoLockAbove e own locks
none_looked_at e own locks none = subst (λ (k : ℕ). All (HasNoLockAbove e locks.greatest) (take k own)) (sym none) (All-nil (HasNoLockAbove e locks.greatest))

-- one more vote is looked at
pub one_more_lock : (e : Evidence) (own : List SignedVote) (k m n : ℕ) (v : SignedVote) → k < length own → v ≡ get_or own k v → m ≤ n → HasNoLockAbove e n v
    → All (HasNoLockAbove e m) (take k own) → All (HasNoLockAbove e n) (take (k + 1) own)
one_more_lock e own k m n v there is le here before =
    All-more (HasNoLockAbove e n) own k v there
    (All-weaker (HasNoLockAbove e m) (HasNoLockAbove e n) (λ x low view lock. (let at : view ≤ m = low view lock in omega arith)) (take k own) before)
    (subst (HasNoLockAbove e n) is here)
