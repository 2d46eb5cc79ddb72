-- What a run of a correct replica keeps: votes rise, and the lock never falls.
use Rattle.std.proofs.Common.{◌≡◌, ◌⊎◌, ℕ, ◌<◌, ◌≤◌, List, [], ◌∷◌, ◌++◌, nat_lt, refl, sym, ◌∙◌, ap, subst, inl, inr, arith}
use Rattle.std.proofs.lemmas.Bool.{cond_both, ltb-true, ltb-false}
use Rattle.blocks.specs.Headers.{Header, header_id, NamesParent, IsGenesis}
use Rattle.blocks.specs.Chains.{IsChain}
use Rattle.blocks.specs.declared.ballot.Ballot.{Ballot}
use Rattle.blocks.specs.Replica.{ReplicaState, first_state, Event, Vote, Raise, Pass, Timeout, Restart, LockIsIn, IsAllowed, locked_on, raised, voted_in, timed_out, after, IsRunFrom, ballot_on, votes_of, headers_of}
use Rattle.blocks.proofs.Members.{Has, Has-append_right, Contains-from_Has, Has-from_Contains}
use Rattle.blocks.specs.Rules.{NoRunHasADoubleVote, NoRunHasALockViolation}

-- what taking a chain's third header as the lock leaves
pub record Raised (s t : ReplicaState) : Type 0 where
  pub vote_view : t.vote_view ≡ s.vote_view
  pub stored_vote_view : t.stored_vote_view ≡ s.stored_vote_view
  pub lock_view : s.lock_view ≤ t.lock_view

same_state : (s : ReplicaState) → Raised s s
same_state s = record { vote_view = refl; stored_vote_view = refl; lock_view = omega arith }

pub raised_is : (s : ReplicaState) (ps : List Header) → Raised s (raised s ps)
raised_is s [] = same_state s
raised_is s (p ∷ []) = same_state s
raised_is s (p ∷ t ∷ ts) =
    cond_both (nat_lt s.lock_view t.view) (locked_on s t) s (λ u. Raised s u)
    (λ e. record { vote_view = refl; stored_vote_view = refl; lock_view = omega (arith, ltb-true s.lock_view t.view e) })
    (λ e. same_state s)

-- what each event leaves
pub record Onward (s t : ReplicaState) : Type 0 where
  pub order : t.stored_vote_view ≤ t.vote_view
  pub stored : s.stored_vote_view ≤ t.stored_vote_view
  pub lock : s.lock_view ≤ t.lock_view

timed_out_order : (s : ReplicaState) (v : ℕ) → s.stored_vote_view ≤ s.vote_view → s.stored_vote_view ≤ (timed_out s v).vote_view
timed_out_order s v h =
    cond_both (nat_lt s.vote_view v) v s.vote_view (λ n. s.stored_vote_view ≤ n)
    (λ e. omega (arith, ltb-true s.vote_view v e)) (λ e. h)

pub onward : (genesis : Header) (s : ReplicaState) (e : Event) → s.stored_vote_view ≤ s.vote_view → IsAllowed genesis s e → Onward s (after s e)
onward genesis s (Vote b ps) h a =
    let r = raised_is (voted_in s b.view) ps in
    record { order = omega arith; stored = omega arith; lock = omega arith }
onward genesis s (Raise b ps) h a =
    let r = raised_is s ps in
    record { order = omega arith; stored = omega arith; lock = omega arith }
onward genesis s (Pass b ps) h a = record { order = h; stored = omega arith; lock = omega arith }
onward genesis s (Timeout v) h a = record { order = timed_out_order s v h; stored = omega arith; lock = omega arith }
onward genesis s Restart h a = record { order = omega arith; stored = omega arith; lock = omega arith }

-- each later vote lies above the stored vote view
pub votes_above : (genesis : Header) (s : ReplicaState) (es : List Event) (v : Ballot) → s.stored_vote_view ≤ s.vote_view → IsRunFrom genesis s es → Has (votes_of es) v → s.stored_vote_view < v.view
votes_above genesis s [] v h r m = absurd m
votes_above genesis s (Vote b ps ∷ es) v h r m =
    let o = onward genesis s (Vote b ps) h r.0 in
    elim m [
      | inl e ↦ let k = ap (λ (x : Ballot). x.view) e in let d = r.0 in omega arith
      | inr m ↦ let k = votes_above genesis (after s (Vote b ps)) es v o.order r.1 m in omega arith
    ]
votes_above genesis s (Raise b ps ∷ es) v h r m =
    let o = onward genesis s (Raise b ps) h r.0 in
    let k = votes_above genesis (after s (Raise b ps)) es v o.order r.1 m in omega arith
votes_above genesis s (Pass b ps ∷ es) v h r m = votes_above genesis s es v h r.1 m
votes_above genesis s (Timeout t ∷ es) v h r m =
    let o = onward genesis s (Timeout t) h r.0 in
    votes_above genesis (after s (Timeout t)) es v o.order r.1 m
votes_above genesis s (Restart ∷ es) v h r m =
    let o = onward genesis s Restart h r.0 in
    votes_above genesis (after s Restart) es v o.order r.1 m

-- behind a vote, each later vote lies above it
pub votes_above_vote : (genesis : Header) (s : ReplicaState) (b : Header) (ps : List Header) (es : List Event) (v : Ballot) → s.stored_vote_view ≤ s.vote_view → IsRunFrom genesis s (Vote b ps ∷ es) → Has (votes_of es) v → b.view < v.view
votes_above_vote genesis s b ps es v h r m =
    let o = onward genesis s (Vote b ps) h r.0 in
    let k = votes_above genesis (after s (Vote b ps)) es v o.order r.1 m in
    let i = raised_is (voted_in s b.view) ps in
    omega arith

-- two votes of one view are on one block
pub one_each : (genesis : Header) (s : ReplicaState) (es : List Event) (e w : Ballot) → s.stored_vote_view ≤ s.vote_view → IsRunFrom genesis s es → Has (votes_of es) e → Has (votes_of es) w → e.view ≡ w.view → e.id ≡ w.id
one_each genesis s [] e w h r m n same = absurd m
one_each genesis s (Vote b ps ∷ es) e w h r m n same =
    let o = onward genesis s (Vote b ps) h r.0 in
    elim m [
      | inl p ↦ elim n [
        | inl q ↦ sym (ap (λ (x : Ballot). x.id) p) ∙ ap (λ (x : Ballot). x.id) q
        | inr n ↦ let k = votes_above_vote genesis s b ps es w h r n in let i = ap (λ (x : Ballot). x.view) p in absurd (omega arith)
      ]
      | inr m ↦ elim n [
        | inl q ↦ let k = votes_above_vote genesis s b ps es e h r m in let i = ap (λ (x : Ballot). x.view) q in absurd (omega arith)
        | inr n ↦ one_each genesis (after s (Vote b ps)) es e w o.order r.1 m n same
      ]
    ]
one_each genesis s (Raise b ps ∷ es) e w h r m n same =
    one_each genesis (after s (Raise b ps)) es e w (onward genesis s (Raise b ps) h r.0).order r.1 m n same
one_each genesis s (Pass b ps ∷ es) e w h r m n same = one_each genesis s es e w h r.1 m n same
one_each genesis s (Timeout v ∷ es) e w h r m n same =
    one_each genesis (after s (Timeout v)) es e w (onward genesis s (Timeout v) h r.0).order r.1 m n same
one_each genesis s (Restart ∷ es) e w h r m n same =
    one_each genesis (after s Restart) es e w (onward genesis s Restart h r.0).order r.1 m n same

pub no_double_vote : NoRunHasADoubleVote
no_double_vote genesis run e w r m n breaks = breaks.different_ids (one_each genesis (first_state genesis) run e w (omega arith) r (Has-from_Contains (votes_of run) e m) (Has-from_Contains (votes_of run) w n) breaks.same_view)

-- views fall along a chain
pub ancestor_below : (genesis b : Header) (ps : List Header) (a : Header) → IsChain genesis b ps → Has ps a → a.view < b.view
ancestor_below genesis b [] a c m = absurd m
ancestor_below genesis b (p ∷ ps) a c m =
    elim m [
      | inl e ↦ let k = ap (λ (h : Header). h.view) e in let d = c.1 in omega arith
      | inr m ↦ let k = ancestor_below genesis p ps a c.2 m in let d = c.1 in omega arith
    ]

pub ancestor_view : (genesis b : Header) (ps : List Header) (a : Header) → IsChain genesis b ps → Has ps a → a.view ≤ b.parent_view
ancestor_view genesis b [] a c m = absurd m
ancestor_view genesis b (p ∷ ps) a c m =
    let names = c.0 in
    elim m [
      | inl e ↦ let k = ap (λ (h : Header). h.view) e in omega arith
      | inr m ↦ let k = ancestor_below genesis p ps a c.2 m in omega arith
    ]

-- the parent's view is below the block's
pub parent_view_below : (genesis b p : Header) (ps : List Header) → IsChain genesis b (p ∷ ps) → b.parent_view < b.view
parent_view_below genesis b p ps c = let n = c.0 in let d = c.1 in omega arith

-- after a vote the lock is no older than the parent's parent
pub locks_grandparent : (genesis : Header) (s : ReplicaState) (b p : Header) (ps : List Header) → IsGenesis genesis → IsChain genesis b (p ∷ ps) → p.parent_view ≤ (raised s (p ∷ ps)).lock_view
locks_grandparent genesis s b p [] g c = let k = ap (λ (h : Header). h.parent_view) c.2 in omega arith
locks_grandparent genesis s b p (t ∷ ts) g c =
    let n = c.2.0 in
    cond_both (nat_lt s.lock_view t.view) (locked_on s t) s (λ u. p.parent_view ≤ u.lock_view)
    (λ e. omega arith)
    (λ e. omega (arith, ltb-false s.lock_view t.view e))

-- the block of a vote w among these, whose parent is no older than this lock
pub record Above (hs : List Header) (lock : ℕ) (w : Ballot) : Type 0 where
  pub block : Header
  pub here : Has hs block
  pub is : ballot_on block ≡ w
  pub parent : lock ≤ block.parent_view

Above-more : (hs ks : List Header) (low high : ℕ) (w : Ballot) → low ≤ high → Above hs high w → Above (ks ++ hs) low w
Above-more hs ks low high w h a = record { block = a.block; here = Has-append_right ks hs a.block a.here; is = a.is; parent = omega arith }

lock_or_later : (genesis : Header) (s : ReplicaState) (b : Header) (ps : List Header) → IsChain genesis b ps → LockIsIn s ps ⊎ (s.lock_view < b.parent_view) → s.lock_view ≤ b.parent_view
lock_or_later genesis s b ps c h =
    elim h [
      | inl i ↦ let k = ancestor_view genesis b ps i.0 c (Has-from_Contains ps i.0 i.1) in let e = i.3 in omega arith
      | inr l ↦ omega arith
    ]

-- each later vote is for a block whose parent is no older than the lock
pub votes_above_lock : (genesis : Header) (s : ReplicaState) (es : List Event) (w : Ballot) → s.stored_vote_view ≤ s.vote_view → IsRunFrom genesis s es → Has (votes_of es) w → Above (headers_of es) s.lock_view w
votes_above_lock genesis s [] w h r m = absurd m
votes_above_lock genesis s (Vote b ps ∷ es) w h r m =
    let o = onward genesis s (Vote b ps) h r.0 in
    elim m [
      | inl e ↦ record { block = b; here = inl refl; is = e; parent = lock_or_later genesis s b ps r.0.0 r.0.2 }
      | inr m ↦ Above-more (headers_of es) (b ∷ ps) s.lock_view (after s (Vote b ps)).lock_view w o.lock (votes_above_lock genesis (after s (Vote b ps)) es w o.order r.1 m)
    ]
votes_above_lock genesis s (Raise b ps ∷ es) w h r m =
    let o = onward genesis s (Raise b ps) h r.0 in
    Above-more (headers_of es) (b ∷ ps) s.lock_view (after s (Raise b ps)).lock_view w o.lock (votes_above_lock genesis (after s (Raise b ps)) es w o.order r.1 m)
votes_above_lock genesis s (Pass b ps ∷ es) w h r m =
    Above-more (headers_of es) (b ∷ ps) s.lock_view s.lock_view w (omega arith) (votes_above_lock genesis s es w h r.1 m)
votes_above_lock genesis s (Timeout v ∷ es) w h r m =
    votes_above_lock genesis (after s (Timeout v)) es w (onward genesis s (Timeout v) h r.0).order r.1 m
votes_above_lock genesis s (Restart ∷ es) w h r m =
    votes_above_lock genesis (after s Restart) es w (onward genesis s Restart h r.0).order r.1 m

-- the blocks of votes e and w among these, and e's parent, which is no younger than w's parent
pub record Behind (hs : List Header) (e w : Ballot) : Type 0 where
  pub first : Header
  pub parent : Header
  pub second : Header
  pub has_first : Has hs first
  pub has_parent : Has hs parent
  pub has_second : Has hs second
  pub first_is : ballot_on first ≡ e
  pub second_is : ballot_on second ≡ w
  pub names : NamesParent first parent
  pub older : parent.parent_view ≤ second.parent_view

Behind-more : (hs ks : List Header) (e w : Ballot) → Behind hs e w → Behind (ks ++ hs) e w
Behind-more hs ks e w a =
    record {
      first = a.first;
      parent = a.parent;
      second = a.second;
      has_first = Has-append_right ks hs a.first a.has_first;
      has_parent = Has-append_right ks hs a.parent a.has_parent;
      has_second = Has-append_right ks hs a.second a.has_second;
      first_is = a.first_is;
      second_is = a.second_is;
      names = a.names;
      older = a.older;
    }

-- at the first of the two votes
behind_vote : (genesis : Header) (s : ReplicaState) (b : Header) (ps : List Header) (es : List Event) (w : Ballot) → IsGenesis genesis → s.stored_vote_view ≤ s.vote_view → IsRunFrom genesis s (Vote b ps ∷ es) → Has (votes_of es) w → Behind (headers_of (Vote b ps ∷ es)) (ballot_on b) w
behind_vote genesis s b [] es w g h r m =
    let k = ap (λ (x : Header). x.view) r.0.0 in let v = r.0.1 in absurd (omega arith)
behind_vote genesis s b (p ∷ ps) es w g h r m =
    let o = onward genesis s (Vote b (p ∷ ps)) h r.0 in
    let a = votes_above_lock genesis (after s (Vote b (p ∷ ps))) es w o.order r.1 m in
    let l = locks_grandparent genesis (voted_in s b.view) b p ps g r.0.0 in
    record {
      first = b;
      parent = p;
      second = a.block;
      has_first = inl refl;
      has_parent = inr (inl refl);
      has_second = Has-append_right (b ∷ p ∷ ps) (headers_of es) a.block a.here;
      first_is = refl;
      second_is = a.is;
      names = r.0.0.0;
      older = omega arith;
    }

pub behind : (genesis : Header) (s : ReplicaState) (es : List Event) (e w : Ballot) → IsGenesis genesis → s.stored_vote_view ≤ s.vote_view → IsRunFrom genesis s es → Has (votes_of es) e → Has (votes_of es) w → e.view < w.view → Behind (headers_of es) e w
behind genesis s [] e w g h r m n later = absurd m
behind genesis s (Vote b ps ∷ es) e w g h r m n later =
    let o = onward genesis s (Vote b ps) h r.0 in
    elim m [
      | inl p ↦ elim n [
        | inl q ↦ let i = ap (λ (x : Ballot). x.view) p in let j = ap (λ (x : Ballot). x.view) q in absurd (omega arith)
        | inr n ↦ subst (λ (x : Ballot). Behind (headers_of (Vote b ps ∷ es)) x w) p (behind_vote genesis s b ps es w g h r n)
      ]
      | inr m ↦ elim n [
        | inl q ↦ let k = votes_above_vote genesis s b ps es e h r m in let i = ap (λ (x : Ballot). x.view) q in absurd (omega arith)
        | inr n ↦ Behind-more (headers_of es) (b ∷ ps) e w (behind genesis (after s (Vote b ps)) es e w g o.order r.1 m n later)
      ]
    ]
behind genesis s (Raise b ps ∷ es) e w g h r m n later =
    Behind-more (headers_of es) (b ∷ ps) e w (behind genesis (after s (Raise b ps)) es e w g (onward genesis s (Raise b ps) h r.0).order r.1 m n later)
behind genesis s (Pass b ps ∷ es) e w g h r m n later =
    Behind-more (headers_of es) (b ∷ ps) e w (behind genesis s es e w g h r.1 m n later)
behind genesis s (Timeout v ∷ es) e w g h r m n later =
    behind genesis (after s (Timeout v)) es e w g (onward genesis s (Timeout v) h r.0).order r.1 m n later
behind genesis s (Restart ∷ es) e w g h r m n later =
    behind genesis (after s Restart) es e w g (onward genesis s Restart h r.0).order r.1 m n later

-- a header with the ballot's id has the id of the block that was voted for
id_of_ballot : (h b : Header) (v : Ballot) → header_id h ≡ v.id → ballot_on b ≡ v → header_id h ≡ header_id b
id_of_ballot h b v e is = e ∙ sym (ap (λ (x : Ballot). x.id) is)

pub no_lock_violation : NoRunHasALockViolation
no_lock_violation genesis run e w he hp hw g r m n apart breaks =
    let b = behind genesis (first_state genesis) run e w g (omega arith) r (Has-from_Contains (votes_of run) e m) (Has-from_Contains (votes_of run) w n) breaks.later in
    let all : List Header = he ∷ hp ∷ hw ∷ headers_of run in
    let same = (λ (x y : Header) (i : Has all x) (j : Has (headers_of run) y). apart x y (Contains-from_Has all x i) (Contains-from_Has all y (inr (inr (inr j))))) in
    let e_same : he ≡ b.first = same he b.first (inl refl) b.has_first (id_of_ballot he b.first e breaks.e_id b.first_is) in
    let w_same : hw ≡ b.second = same hw b.second (inr (inr (inl refl))) b.has_second (id_of_ballot hw b.second w breaks.w_id b.second_is) in
    let p_same : hp ≡ b.parent = same hp b.parent (inr (inl refl)) b.has_parent (sym breaks.parent.id ∙ ap (λ (x : Header). x.parent) e_same ∙ b.names.id) in
    let i = ap (λ (x : Header). x.parent_view) p_same in
    let j = ap (λ (x : Header). x.parent_view) w_same in
    let o = b.older in
    let l = breaks.older_parent in
    absurd (omega arith)
