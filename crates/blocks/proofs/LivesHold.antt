-- Every life is a run.
use Rattle.std.proofs.Common.{◌≡◌, inl, inr, ◌<◌, Bool, true, false, List, [], ◌∷◌, ◌++◌, refl, sym, ap, subst, ◌∙◌, append-nil, arith}
use Rattle.std.specs.List.{Contains}
use Rattle.std.proofs.lemmas.List.Elements.{Contains-append_left, Contains-append_right}
use Rattle.std.specs.List.{AllByRecursion}
use Rattle.blocks.specs.Headers.{Header, NamesParent, AreInOrder, IsGenesis}
use Rattle.blocks.specs.Chains.{AllIn, IsChain}
use Rattle.blocks.specs.declared.ballot.Ballot.{Ballot}
use Rattle.blocks.specs.Replica.{ReplicaState, first_state, Event, Vote, Raise, Pass, Timeout, Restart, after, IsRun, IsRunFrom, Stored, headers_of, stored_of, votes_of}
use Rattle.blocks.specs.Replay.{Durable, durable_of, replay_entry, replay_from, IsLegal, IsLegalFrom, FitsOpening, IsAttached, ballots_in}
use Rattle.blocks.specs.Lives.{Stay, IsFoundAfter, blocks_in, released_in, headers_of_life, IsHistoryOf, EveryLifeIsARun, EveryRunIsALife}
use Rattle.blocks.proofs.Restarts.{run_goes_on, stored_is_legal, votes_are_stored}
use Rattle.blocks.proofs.Within.{either_of, none_in, AllIn-append, headers-append, events_within, blocks_kept, blocks_more, ballots_kept}

legal_rest : (d : Durable) (xs ys : List Stored) → IsLegalFrom d (xs ++ ys) → IsLegalFrom (replay_from d xs) ys
legal_rest d [] ys l = l
legal_rest d (x ∷ xs) ys l = legal_rest (replay_entry d x.voted x.block x.parent) xs ys l.1

-- a run goes on to a list that fits what it stored, over the headers that the list needs
goes_on : (t hs : List Header) (genesis : Header) (run : List Event) (list : List Stored) → IsGenesis genesis → IsRun genesis run → FitsOpening hs genesis (stored_of run) list
    → AllIn t hs → AllIn t (blocks_in list) → AllIn t (headers_of run) → (more : List Event) × IsHistoryOf genesis t list more
goes_on t hs genesis run list g r f into blocks headers =
    let d = replay_from (durable_of (first_state genesis)) (stored_of run) in
    let l : IsLegal genesis (stored_of run ++ f.more) = subst (λ (xs : List Stored). IsLegal genesis xs) f.begins f.legal in
    let rest = legal_rest (durable_of (first_state genesis)) (stored_of run) f.more l in
    let e = events_within t hs genesis 0 d f.more into (λ h m. blocks h (blocks_more (stored_of run) f.more list f.begins h m)) rest f.attached in
    let k = run_goes_on genesis run e.events f.more 0 g r l e.are in
    let all = run ++ Restart ∷ e.events in
    let stores : stored_of all ≡ list = k.1 ∙ sym f.begins in (
      all,
      record {
        is_run = k.0;
        stores = stores;
        votes = votes_are_stored genesis all g k.0 ∙ ap ballots_in stores;
        headers = subst (λ (hs : List Header). AllIn t hs) (sym (headers-append run (Restart ∷ e.events))) (AllIn-append t (headers_of run) (headers_of e.events) headers e.headers);
      },
    )

-- what is found fits what the last stay opened on
found_fits : (genesis : Header) (s : Stay) (list : List Stored) → FitsOpening s.headers genesis s.opening s.left → IsFoundAfter genesis s list → FitsOpening s.headers genesis s.opening list
found_fits genesis s list f (inl e) = subst (λ (l : List Stored). FitsOpening s.headers genesis s.opening l) (sym e) f
found_fits genesis s list f (inr m) = m.2

-- .. and begins with what it left
found_begins : (genesis : Header) (s : Stay) (list : List Stored) → IsFoundAfter genesis s list → (more : List Stored) × (list ≡ s.left ++ more)
found_begins genesis s list (inl e) = ([], e ∙ sym (append-nil s.left))
found_begins genesis s list (inr m) = (m.0 ∷ [], m.1)

pub every_life : EveryLifeIsARun
every_life genesis [] list g life found = (
  [],
  record {
    is_run = tt;
    stores = sym found;
    votes = sym (ap ballots_in found);
    headers = λ h m. absurd (none_in h m);
  },
  λ b m. absurd (none_in b m),
)
every_life genesis (s ∷ before) list g life found =
    let old = every_life genesis before s.opening g life.2 life.0 in
    let t = headers_of_life (s ∷ before) ++ blocks_in list in
    let f = found_fits genesis s list life.1 found in
    let b = found_begins genesis s list found in
    let behind : AllIn t (headers_of_life before) = λ h m. Contains-append_left (headers_of_life (s ∷ before)) (blocks_in list) h
    (Contains-append_right s.headers (blocks_in s.left ++ headers_of_life before) h (Contains-append_right (blocks_in s.left) (headers_of_life before) h m)) in
    let held : AllIn t s.headers = λ h m. Contains-append_left (headers_of_life (s ∷ before)) (blocks_in list) h
    (Contains-append_left s.headers (blocks_in s.left ++ headers_of_life before) h m) in
    let blocks : AllIn t (blocks_in list) = λ h m. Contains-append_right (headers_of_life (s ∷ before)) (blocks_in list) h m in
    let opened : AllIn t (blocks_in s.opening) = λ h m. blocks h (blocks_kept s.opening f.more list f.begins h m) in
    let headers : AllIn t (headers_of old.0) = λ h m. AllIn-append t (headers_of_life before) (blocks_in s.opening) behind opened h (old.1.headers h m) in
    let fits : FitsOpening s.headers genesis (stored_of old.0) list = subst (λ (l : List Stored). FitsOpening s.headers genesis l list) (sym old.1.stores) f in
    let on = goes_on t s.headers genesis old.0 list g old.1.is_run fits held blocks headers in
    let in_run : (v : Ballot) → Contains (ballots_in list) v → Contains (votes_of on.0) v = λ v m. subst (λ (l : List Ballot). Contains l v) (sym on.1.votes) m in (
      on.0,
      on.1,
      λ v m. elim (either_of (ballots_in s.left) (released_in before) v m) [
        | inl a ↦ in_run v (ballots_kept s.left b.0 list b.1 v a)
        | inr a ↦ in_run v (ballots_kept s.opening f.more list f.begins v (subst (λ (l : List Ballot). Contains l v) old.1.votes (old.2 v a)))
      ],
    )

-- ---- every run is a life

in_order : (b p : Header) → NamesParent b p → p.view < b.view → AreInOrder b.parent_view b.view
in_order b p n l = let v = n.view in omega arith

chain_in_order : (genesis p : Header) (below : List Header) → IsGenesis genesis → IsChain genesis p below → AreInOrder p.parent_view p.view
chain_in_order genesis p [] g is = let v = ap (λ (h : Header). h.parent_view) is in let w = g.parent_view in omega arith
chain_in_order genesis p (q ∷ qs) g is = in_order p q is.0 is.1

attached : (hs : List Header) (genesis : Header) (voted : Bool) (b p : Header) (ps : List Header) → IsGenesis genesis → IsChain genesis b (p ∷ ps) → AllIn hs (p ∷ ps) → IsAttached hs genesis (record { voted = voted; block = b; parent = p })
attached hs genesis voted b p ps g is held = record {
  block_in_order = in_order b p is.0 is.1;
  parent_in_order = chain_in_order genesis p ps g is.2;
  names = is.0;
  chain = ps;
  is_chain = (is.2, held);
}

-- the first headers, and those behind them
front : (hs xs ys : List Header) → AllIn hs (xs ++ ys) → AllIn hs xs
front hs xs ys into h m = into h (Contains-append_left xs ys h m)

behind : (hs xs ys : List Header) → AllIn hs (xs ++ ys) → AllIn hs ys
behind hs xs ys into h m = into h (Contains-append_right xs ys h m)

below : (hs : List Header) (b : Header) (ps ys : List Header) → AllIn hs ((b ∷ ps) ++ ys) → AllIn hs ps
below hs b ps ys into h m = into h (Contains-append_left (b ∷ ps) ys h (Contains-append_right (b ∷ []) ps h m))

run_attached : (hs : List Header) (genesis : Header) (s : ReplicaState) (es : List Event) → IsGenesis genesis → IsRunFrom genesis s es → AllIn hs (headers_of es) → AllByRecursion (IsAttached hs genesis) (stored_of es)
run_attached hs genesis s [] g r into = tt
run_attached hs genesis s (Vote b [] ∷ es) g r into = run_attached hs genesis (after s (Vote b [])) es g r.1 (behind hs (b ∷ []) (headers_of es) into)
run_attached hs genesis s (Vote b (p ∷ ps) ∷ es) g r into =
    (attached hs genesis true b p ps g r.0.0 (below hs b (p ∷ ps) (headers_of es) into), run_attached hs genesis (after s (Vote b (p ∷ ps))) es g r.1 (behind hs (b ∷ (p ∷ ps)) (headers_of es) into))
run_attached hs genesis s (Raise b [] ∷ es) g r into = absurd r.0.1
run_attached hs genesis s (Raise b (p ∷ ps) ∷ es) g r into =
    (attached hs genesis false b p ps g r.0.0 (below hs b (p ∷ ps) (headers_of es) into), run_attached hs genesis (after s (Raise b (p ∷ ps))) es g r.1 (behind hs (b ∷ (p ∷ ps)) (headers_of es) into))
run_attached hs genesis s (Pass b ps ∷ es) g r into = run_attached hs genesis s es g r.1 (behind hs (b ∷ ps) (headers_of es) into)
run_attached hs genesis s (Timeout v ∷ es) g r into = run_attached hs genesis (after s (Timeout v)) es g r.1 into
run_attached hs genesis s (Restart ∷ es) g r into = run_attached hs genesis (after s Restart) es g r.1 into

pub every_run : EveryRunIsALife
every_run genesis run g r =
    (refl, record { legal = stored_is_legal genesis run g r; more = stored_of run; begins = refl; attached = run_attached (headers_of run) genesis (first_state genesis) run g r (λ h m. m) }, tt)
