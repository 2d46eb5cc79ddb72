-- The stored list of a run against its state.
use Rattle.std.proofs.Common.{◌≡◌, ◌⊎◌, ℕ, ◌<◌, ◌≤◌, List, [], ◌∷◌, ◌++◌, Bool, true, false, cond, nat_lt, refl, sym, ◌∙◌, ap, subst, inl, inr, arith}
use Rattle.std.proofs.lemmas.Bool.{cond_both, le-ltb}
use Rattle.blocks.specs.Headers.{Header, header_id, NamesParent, AreInOrder, IsGenesis}
use Rattle.blocks.specs.Chains.{IsChain}
use Rattle.blocks.specs.declared.ballot.Ballot.{Ballot}
use Rattle.blocks.specs.Replica.{ballot_on, votes_of, ReplicaState, first_state, Event, Vote, Raise, Pass, Timeout, Restart, LockIsIn, CanRaise, IsAllowed, locked_on, raised, voted_in, after, IsRunFrom, after_all, Stored, stored_on, stored_of}
use Rattle.blocks.specs.Replay.{Durable, durable_of, moved_to, replay_entry, replay_from, IsLegalEntry, IsLegalFrom, IsOnLock, VoteRuleLooksAtTheParent, RaiseLooksAtTheParent, LockLooksAtTheParent, StoredListIsLegal, VotesAreStored, ballots_in, ReplayIsTheState, LockNeverFalls, VoteViewCoversTheStored, event_on, AreEventsOf, RunGoesOn, AttachedEntriesHaveEvents, FittedListIsStored, IsLegal}
use Rattle.blocks.proofs.Members.{Contains-first, Has-from_Contains}
use Rattle.blocks.proofs.Runs.{ancestor_below, onward}

-- both forms of the voting rule
by_parent : (genesis : Header) (s : ReplicaState) (b p : Header) (ps : List Header) → IsChain genesis b (p ∷ ps) → LockIsIn s (p ∷ ps) ⊎ (s.lock_view < b.parent_view) → (s.lock_view < b.parent_view) ⊎ IsOnLock s b
by_parent genesis s b p ps c h =
    let n = c.0 in
    elim h [
      | inl i ↦ elim (Has-from_Contains (p ∷ ps) i.0 i.1) [
        | inl e ↦ inr (n.id ∙ ap header_id e ∙ i.2, n.view ∙ ap (λ (x : Header). x.view) e ∙ i.3)
        | inr m ↦ let k = ancestor_below genesis p ps i.0 c.2 m in let v = i.3 in inl (omega arith)
      ]
      | inr l ↦ inl l
    ]

by_chain : (genesis : Header) (s : ReplicaState) (b p : Header) (ps : List Header) → IsChain genesis b (p ∷ ps) → (s.lock_view < b.parent_view) ⊎ IsOnLock s b → LockIsIn s (p ∷ ps) ⊎ (s.lock_view < b.parent_view)
by_chain genesis s b p ps c h =
    let n = c.0 in
    elim h [ inl l ↦ inr l | inr e ↦ inl (p, Contains-first p ps, sym n.id ∙ e.0, sym n.view ∙ e.1) ]

pub vote_rule_by_parent : VoteRuleLooksAtTheParent
vote_rule_by_parent genesis s b p ps c = (by_parent genesis s b p ps c, by_chain genesis s b p ps c)

kept_cond : (c : Bool) (x y : ReplicaState) → durable_of (cond c x y) ≡ cond c (durable_of x) (durable_of y)
kept_cond true x y = refl
kept_cond false x y = refl

-- the lock by the parent's fields is the lock by the third header
pub kept_raised : (genesis : Header) (s : ReplicaState) (p : Header) (ps : List Header) → IsGenesis genesis → IsChain genesis p ps → moved_to s.stored_vote_view (durable_of s) p ≡ durable_of (raised s (p ∷ ps))
kept_raised genesis s p [] g c =
    let k = ap (λ (h : Header). h.parent_view) c in
    let low : p.parent_view ≤ s.lock_view = omega arith in
    rw (le-ltb s.lock_view p.parent_view low) refl
kept_raised genesis s p (t ∷ ts) g c =
    let n = c.0 in
    let other : Durable = durable_of s in
    ap (λ (v : ℕ). cond (nat_lt s.lock_view v) (let k : Durable = record { stored_vote_view = s.stored_vote_view; lock_id = p.parent; lock_view = v } in k) other) n.view
    ∙ ap (λ (i : List ℕ). cond (nat_lt s.lock_view t.view) (let k : Durable = record { stored_vote_view = s.stored_vote_view; lock_id = i; lock_view = t.view } in k) other) n.id
    ∙ sym (kept_cond (nat_lt s.lock_view t.view) (locked_on s t) s)

-- what is stored is legal, and replayed leaves the state
pub record Agrees (s : ReplicaState) (es : List Event) : Type 0 where
  pub legal : IsLegalFrom (durable_of s) (stored_of es)
  pub replayed : replay_from (durable_of s) (stored_of es) ≡ durable_of (after_all s es)

pub agrees : (genesis : Header) (s : ReplicaState) (es : List Event) → IsGenesis genesis → s.stored_vote_view ≤ s.vote_view → IsRunFrom genesis s es → Agrees s es
agrees genesis s [] g h r = record { legal = tt; replayed = refl }
agrees genesis s (Vote b [] ∷ es) g h r = let k = ap (λ (x : Header). x.view) r.0.0 in let v = r.0.1 in absurd (omega arith)
agrees genesis s (Vote b (p ∷ ps) ∷ es) g h r =
    let o = onward genesis s (Vote b (p ∷ ps)) h r.0 in
    let i = agrees genesis (after s (Vote b (p ∷ ps))) es g o.order r.1 in
    let e = kept_raised genesis (voted_in s b.view) p ps g r.0.0.2 in
    let v = r.0.1 in
    record {
      legal = ((omega arith, by_parent genesis s b p ps r.0.0 r.0.2), subst (λ (k : Durable). IsLegalFrom k (stored_of es)) (sym e) i.legal);
      replayed = ap (λ (k : Durable). replay_from k (stored_of es)) e ∙ i.replayed;
    }
agrees genesis s (Raise b [] ∷ es) g h r = absurd r.0.1
agrees genesis s (Raise b (p ∷ []) ∷ es) g h r = absurd r.0.1
agrees genesis s (Raise b (p ∷ t ∷ ts) ∷ es) g h r =
    let o = onward genesis s (Raise b (p ∷ t ∷ ts)) h r.0 in
    let i = agrees genesis (after s (Raise b (p ∷ t ∷ ts))) es g o.order r.1 in
    let e = kept_raised genesis s p (t ∷ ts) g r.0.0.2 in
    let n = r.0.0.2.0 in
    let l = r.0.1 in
    record {
      legal = (omega arith, subst (λ (k : Durable). IsLegalFrom k (stored_of es)) (sym e) i.legal);
      replayed = ap (λ (k : Durable). replay_from k (stored_of es)) e ∙ i.replayed;
    }
agrees genesis s (Pass b ps ∷ es) g h r =
    let i = agrees genesis s es g h r.1 in record { legal = i.legal; replayed = i.replayed }
agrees genesis s (Timeout v ∷ es) g h r =
    let i = agrees genesis (after s (Timeout v)) es g (onward genesis s (Timeout v) h r.0).order r.1 in
    record { legal = i.legal; replayed = i.replayed }
agrees genesis s (Restart ∷ es) g h r =
    let i = agrees genesis (after s Restart) es g (onward genesis s Restart h r.0).order r.1 in
    record { legal = i.legal; replayed = i.replayed }

pub stored_is_legal : StoredListIsLegal
stored_is_legal genesis run g r = (agrees genesis (first_state genesis) run g (omega arith) r).legal

pub replay_is_state : ReplayIsTheState
replay_is_state genesis run g r = (agrees genesis (first_state genesis) run g (omega arith) r).replayed

-- runs one after the other
pub IsRunFrom-append : (genesis : Header) (s : ReplicaState) (es fs : List Event) → IsRunFrom genesis s es → IsRunFrom genesis (after_all s es) fs → IsRunFrom genesis s (es ++ fs)
IsRunFrom-append genesis s [] fs r q = q
IsRunFrom-append genesis s (e ∷ es) fs r q = (r.0, IsRunFrom-append genesis (after s e) es fs r.1 q)

stored_on-append : (v : Bool) (b : Header) (ps : List Header) (xs ys : List Stored) → stored_on v b ps ++ (xs ++ ys) ≡ (stored_on v b ps ++ xs) ++ ys
stored_on-append v b [] xs ys = refl
stored_on-append v b (p ∷ ps) xs ys = refl

pub stored_of-append : (es fs : List Event) → stored_of (es ++ fs) ≡ stored_of es ++ stored_of fs
stored_of-append [] fs = refl
stored_of-append (Vote b ps ∷ es) fs = ap (λ (xs : List Stored). stored_on true b ps ++ xs) (stored_of-append es fs) ∙ stored_on-append true b ps (stored_of es) (stored_of fs)
stored_of-append (Raise b ps ∷ es) fs = ap (λ (xs : List Stored). stored_on false b ps ++ xs) (stored_of-append es fs) ∙ stored_on-append false b ps (stored_of es) (stored_of fs)
stored_of-append (Pass b ps ∷ es) fs = stored_of-append es fs
stored_of-append (Timeout v ∷ es) fs = stored_of-append es fs
stored_of-append (Restart ∷ es) fs = stored_of-append es fs

legal_rest : (k : Durable) (xs ys : List Stored) → IsLegalFrom k (xs ++ ys) → IsLegalFrom (replay_from k xs) ys
legal_rest k [] ys l = l
legal_rest k (x ∷ xs) ys l = legal_rest (replay_entry k x.voted x.block x.parent) xs ys l.1

-- events that store these entries and no others
pub record GoesOn (genesis : Header) (s : ReplicaState) (es : List Event) (xs : List Stored) : Type 0 where
  pub run : IsRunFrom genesis s es
  pub keeps : stored_of es ≡ xs

raised_vote_view : (s : ReplicaState) (ps : List Header) → s.vote_view ≡ s.stored_vote_view → (raised s ps).vote_view ≡ (raised s ps).stored_vote_view
raised_vote_view s [] e = e
raised_vote_view s (p ∷ []) e = e
raised_vote_view s (p ∷ t ∷ ts) e = cond_both (nat_lt s.lock_view t.view) (locked_on s t) s (λ u. u.vote_view ≡ u.stored_vote_view) (λ _. e) (λ _. e)

can_raise : (genesis : Header) (s : ReplicaState) (p : Header) (ps : List Header) → IsGenesis genesis → IsChain genesis p ps → s.lock_view < p.parent_view → CanRaise s (p ∷ ps)
can_raise genesis s p [] g c l = let k = ap (λ (h : Header). h.parent_view) c in absurd (omega arith)
can_raise genesis s p (t ∷ ts) g c l = let n = c.0 in omega arith

mutual_step : (genesis : Header) (s : ReplicaState) (voted : Bool) (b p : Header) (ps : List Header) → IsGenesis genesis → s.vote_view ≡ s.stored_vote_view → IsLegalEntry (durable_of s) voted b p → IsChain genesis b (p ∷ ps)
    → IsAllowed genesis s (event_on voted b (p ∷ ps)) × ((after s (event_on voted b (p ∷ ps))).vote_view ≡ (after s (event_on voted b (p ∷ ps))).stored_vote_view) × (replay_entry (durable_of s) voted b p ≡ durable_of (after s (event_on voted b (p ∷ ps))))
mutual_step genesis s true b p ps g same l c =
    let h = l.0 in
    ((c, omega arith, by_chain genesis s b p ps c l.1), raised_vote_view (voted_in s b.view) (p ∷ ps) refl, kept_raised genesis (voted_in s b.view) p ps g c.2)
mutual_step genesis s false b p ps g same l c =
    ((c, can_raise genesis s p ps g c.2 l), raised_vote_view s (p ∷ ps) same, kept_raised genesis s p ps g c.2)

stored_first : (v : Bool) (b p : Header) (ps : List Header) (es : List Event) → stored_of (event_on v b (p ∷ ps) ∷ es) ≡ (let x : Stored = record { voted = v; block = b; parent = p } in x) ∷ stored_of es
stored_first true b p ps es = refl
stored_first false b p ps es = refl

pub goes_on : (genesis : Header) (s : ReplicaState) (view : ℕ) (xs : List Stored) (es : List Event) → IsGenesis genesis → s.vote_view ≡ s.stored_vote_view → IsLegalFrom (durable_of s) xs → AreEventsOf genesis view xs es → GoesOn genesis s es xs
goes_on genesis s view [] es g same l a =
    subst (λ (fs : List Event). GoesOn genesis s fs []) (sym a) (record { run = (tt, tt); keeps = refl })
goes_on genesis s view (x ∷ xs) es g same l a =
    let m = mutual_step genesis s x.voted x.block x.parent a.0 g same l.0 a.3 in
    let i = goes_on genesis (after s (event_on x.voted x.block (x.parent ∷ a.0))) view xs a.1 g m.1 (subst (λ (k : Durable). IsLegalFrom k xs) m.2 l.1) a.4 in
    subst (λ (fs : List Event). GoesOn genesis s fs (x ∷ xs)) (sym a.2)
    (record { run = (m.0, i.run); keeps = stored_first x.voted x.block x.parent a.0 a.1 ∙ ap (λ (ys : List Stored). x ∷ ys) i.keeps })

pub run_goes_on : RunGoesOn
run_goes_on genesis run events more view g r l a =
    let s = after_all (first_state genesis) run in
    let k = subst (λ (k : Durable). IsLegalFrom k more) (replay_is_state genesis run g r) (legal_rest (durable_of (first_state genesis)) (stored_of run) more l) in
    let i = goes_on genesis (after s Restart) view more events g refl k a in
    (IsRunFrom-append genesis (first_state genesis) run (Restart ∷ events) r (tt, i.run), stored_of-append run (Restart ∷ events) ∙ ap (λ (xs : List Stored). stored_of run ++ xs) i.keeps)

pub raise_by_parent : RaiseLooksAtTheParent
raise_by_parent genesis s b p [] g c = (λ h. absurd h, λ l. can_raise genesis s p [] g c.2 l)
raise_by_parent genesis s b p (t ∷ ts) g c = (λ h. (let n = c.2.0 in omega arith), λ l. can_raise genesis s p (t ∷ ts) g c.2 l)

pub lock_is_by_parent : LockLooksAtTheParent
lock_is_by_parent genesis s b p [] g c =
    let k = ap (λ (h : Header). h.parent_view) c.2 in
    let low : p.parent_view ≤ s.lock_view = omega arith in
    rw (le-ltb s.lock_view p.parent_view low) refl
lock_is_by_parent genesis s b p (t ∷ ts) g c =
    let n = c.2.0 in
    sym (ap (λ (v : ℕ). cond (nat_lt s.lock_view v) (let k : ReplicaState = record { vote_view = s.vote_view; stored_vote_view = s.stored_vote_view; lock_id = p.parent; lock_view = v } in k) s) n.view
    ∙ ap (λ (i : List ℕ). cond (nat_lt s.lock_view t.view) (let k : ReplicaState = record { vote_view = s.vote_view; stored_vote_view = s.stored_vote_view; lock_id = i; lock_view = t.view } in k) s) n.id)

-- a legal entry's block is younger than its parent
older_parent : (k : Durable) (v : Bool) (b p : Header) → IsLegalEntry k v b p → AreInOrder b.parent_view b.view → AreInOrder p.parent_view p.view → NamesParent b p → p.view < b.view
older_parent k true b p l o q n = let y = n.view in let x = l.0 in omega arith
older_parent k false b p l o q n = let y = n.view in omega arith

pub attached_have_events : AttachedEntriesHaveEvents
attached_have_events hs genesis view k [] l a = (Timeout view ∷ [], refl)
attached_have_events hs genesis view k (x ∷ xs) l a =
    let r = attached_have_events hs genesis view (replay_entry k x.voted x.block x.parent) xs l.1 a.1 in
    let h = a.0 in
    (event_on x.voted x.block (x.parent ∷ h.chain) ∷ r.0, (h.chain, r.0, refl, (h.names, older_parent k x.voted x.block x.parent l.0 h.block_in_order h.parent_in_order h.names, h.is_chain.0), r.1))

-- ---- along a run

-- what the events of a run leave
record Onwards (s t : ReplicaState) : Type 0 where
  order : t.stored_vote_view ≤ t.vote_view
  stored : s.stored_vote_view ≤ t.stored_vote_view
  lock : s.lock_view ≤ t.lock_view

onwards : (genesis : Header) (s : ReplicaState) (es : List Event) → s.stored_vote_view ≤ s.vote_view → IsRunFrom genesis s es → Onwards s (after_all s es)
onwards genesis s [] h r = record { order = h; stored = omega arith; lock = omega arith }
onwards genesis s (e ∷ es) h r =
    let o = onward genesis s e h r.0 in
    let i = onwards genesis (after s e) es o.order r.1 in
    record { order = i.order; stored = omega arith; lock = omega arith }

after_all-append : (s : ReplicaState) (es fs : List Event) → after_all s (es ++ fs) ≡ after_all (after_all s es) fs
after_all-append s [] fs = refl
after_all-append s (e ∷ es) fs = after_all-append (after s e) es fs

run_before : (genesis : Header) (s : ReplicaState) (es fs : List Event) → IsRunFrom genesis s (es ++ fs) → IsRunFrom genesis s es
run_before genesis s [] fs r = tt
run_before genesis s (e ∷ es) fs r = (r.0, run_before genesis (after s e) es fs r.1)

run_behind : (genesis : Header) (s : ReplicaState) (es fs : List Event) → IsRunFrom genesis s (es ++ fs) → IsRunFrom genesis (after_all s es) fs
run_behind genesis s [] fs r = r
run_behind genesis s (e ∷ es) fs r = run_behind genesis (after s e) es fs r.1

pub lock_never_falls : LockNeverFalls
lock_never_falls genesis run more r =
    let s = first_state genesis in
    let o = onwards genesis s run (omega arith) (run_before genesis s run more r) in
    let i = onwards genesis (after_all s run) more o.order (run_behind genesis s run more r) in
    rw (after_all-append s run more) (i.lock, i.stored)

pub vote_view_covers : VoteViewCoversTheStored
vote_view_covers genesis run r = (onwards genesis (first_state genesis) run (omega arith) r).order

votes_stored : (genesis : Header) (s : ReplicaState) (es : List Event) → IsGenesis genesis → IsRunFrom genesis s es → votes_of es ≡ ballots_in (stored_of es)
votes_stored genesis s [] g r = refl
votes_stored genesis s (Vote b [] ∷ es) g r = let k = ap (λ (x : Header). x.view) r.0.0 in let v = r.0.1 in absurd (omega arith)
votes_stored genesis s (Vote b (p ∷ ps) ∷ es) g r = ap (λ (vs : List Ballot). ballot_on b ∷ vs) (votes_stored genesis (after s (Vote b (p ∷ ps))) es g r.1)
votes_stored genesis s (Raise b [] ∷ es) g r = absurd r.0.1
votes_stored genesis s (Raise b (p ∷ ps) ∷ es) g r = votes_stored genesis (after s (Raise b (p ∷ ps))) es g r.1
votes_stored genesis s (Pass b ps ∷ es) g r = votes_stored genesis s es g r.1
votes_stored genesis s (Timeout v ∷ es) g r = votes_stored genesis (after s (Timeout v)) es g r.1
votes_stored genesis s (Restart ∷ es) g r = votes_stored genesis (after s Restart) es g r.1

pub votes_are_stored : VotesAreStored
votes_are_stored genesis run g r = votes_stored genesis (first_state genesis) run g r

pub fitted_is_stored : FittedListIsStored
fitted_is_stored hs genesis run list view g r f =
    let l : IsLegal genesis (stored_of run ++ f.more) = subst (λ (xs : List Stored). IsLegal genesis xs) f.begins f.legal in
    let rest = legal_rest (durable_of (first_state genesis)) (stored_of run) f.more l in
    let e = attached_have_events hs genesis view (replay_from (durable_of (first_state genesis)) (stored_of run)) f.more rest f.attached in
    let k = run_goes_on genesis run e.0 f.more view g r l e.1 in
    (e.0, e.1, k.0, k.1 ∙ sym f.begins)
