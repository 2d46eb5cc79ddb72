-- What evidence proves stays as it grows.
use Rattle.std.proofs.Common.{◌≡◌, ◌∙◌, ℕ, List, [], ◌∷◌, Bool, true, false, ◌||◌, refl, sym, subst, inl, inr, arith}
use Rattle.std.specs.List.{Contains, list_any}
use Rattle.blocks.specs.Headers.{Header}
use Rattle.blocks.specs.Chains.{Conflict, IsAncestor, IsChainIn, IsLinked, NoCollision}
use Rattle.blocks.specs.Weights.{Committee, is_among}
use Rattle.blocks.proofs.Chains.{one_chain}
use Rattle.blocks.proofs.Members.{Has, Contains-from_Has, Has-from_Contains}
use Rattle.certificates.specs.declared.vote.SignedVote.{SignedVote}
use Rattle.audit_evidence.specs.Evidence.{Evidence, IsHeaderInEvidence, IsVoteInEvidence}
use Rattle.audit_evidence.specs.Logs.{ReceivedLog, FrameHasVote}
use Rattle.ancestry.proofs.Ids.{apart_in}
use Rattle.audit_commits.specs.Commits.{IsCertified, Stands, has_vote, is_vote_on}
use Rattle.audit_commits.specs.Culprits.{Shows}
use Rattle.watch_collector.specs.Growth.{AreLonger, IsWithin, LongerLogsShowMore, ACollisionStays, OffencesStay, CulpritsStay, CommitsStay, ConflictsStay, AccusedWeightGrows, NamedPairsFall, FirstConflictsFall}
use Rattle.audit_commits.proofs.Weights.{list_any-Has, weight_more, weight_within}
use Rattle.verdict_format.specs.declared.parts.Shown.{Shown}
use Rattle.verdict_format.specs.declared.parts.Shown.TheVariants.{DoubleVote, LockViolation}

-- ---- logs

header_stays : (committee : List ℕ) (ls ms : List ReceivedLog) (h : Header) → AreLonger ls ms → IsHeaderInEvidence committee ls h → IsHeaderInEvidence committee ms h
header_stays committee ls ms h longer (inl g) = inl g
header_stays committee ls ms h longer (inr w) =
    let m = longer w.0 w.1 in
    inr (m.0, m.1, (w.2.0, m.2.frames w.2.0 w.2.1, w.2.2))

vote_stays : (committee : List ℕ) (ls ms : List ReceivedLog) (v : SignedVote) → AreLonger ls ms → IsVoteInEvidence committee ls v → IsVoteInEvidence committee ms v
vote_stays committee ls ms v longer w =
    let m = longer w.0 w.1 in
    (m.0, m.1, (w.2.0, m.2.frames w.2.0 w.2.1, subst (λ (r : ℕ). FrameHasVote committee r w.2.0 v) (sym m.2.replica) w.2.2))

pub show_more : LongerLogsShowMore
show_more committee ls ms e f longer of more = record {
  committee = more.under ∙ sym of.under;
  headers = λ h c. (more.headers h).1 (header_stays committee ls ms h longer ((of.headers h).0 c));
  votes = λ v c. (more.votes v).1 (vote_stays committee ls ms v longer ((of.votes v).0 c));
}

pub collision_stays : ACollisionStays
collision_stays committee ls ms h k longer c =
    (header_stays committee ls ms h longer c.0, header_stays committee ls ms k longer c.1, c.2, c.3)

-- ---- culprits

shows_stays : (e f : Evidence) (v w : SignedVote) (h : Shown) → IsWithin e f → Shows e v w h → Shows f v w h
shows_stays e f v w DoubleVote within s = s
shows_stays e f v w (LockViolation h) within s =
    let k = s.0 in
    (record { earlier = within.headers h.earlier k.earlier; parent = within.headers h.parent k.parent; later = within.headers h.later k.later }, s.1)

pub offences_stay : OffencesStay
offences_stay e f r v w within o = record {
  earlier = within.votes v o.earlier;
  later = within.votes w o.later;
  earlier_by = o.earlier_by;
  later_by = o.later_by;
  broken = (o.broken.0, shows_stays e f v w o.broken.0 within o.broken.1);
}

pub culprits_stay : CulpritsStay
culprits_stay e f r within c = (c.0, c.1, offences_stay e f r c.0 c.1 within c.2)

pub pairs_fall : NamedPairsFall
pairs_fall e f r v w x y within old new = new.least_later v w (offences_stay e f r v w within old.offence)

-- ---- commits

any_of : {X : Type 0} (p : X → Bool) (xs : List X) (x : X) → Has xs x → p x ≡ true → list_any p xs ≡ true
any_of p [] x h t = absurd h
any_of p (y ∷ ys) x (inl is) t = rw (subst (λ z. p z ≡ true) (sym is) t) refl
any_of p (y ∷ ys) x (inr h) t = elim (p y) as (λ b. (b || list_any p ys) ≡ true) [ true ↦ refl | false ↦ any_of p ys x h t ]

voted_stays : (e f : Evidence) (view : ℕ) (id : List ℕ) (r : ℕ) → IsWithin e f → has_vote e.votes view id r ≡ true → has_vote f.votes view id r ≡ true
voted_stays e f view id r within t =
    let v = list_any-Has (is_vote_on view id r) e.votes t in
    any_of (is_vote_on view id r) f.votes v.0 (Has-from_Contains f.votes v.0 (within.votes v.0 (Contains-from_Has e.votes v.0 v.1))) v.2

certified_stays : (c : Committee) (e f : Evidence) (b : Header) → IsWithin e f → IsCertified c e b → IsCertified c f b
unfolding IsCertified
certified_stays c e f b within cert =
    let id = Rattle.blocks.specs.Headers.header_id b in
    let k = weight_more c.weight (has_vote e.votes b.view id) (has_vote f.votes b.view id) c.size (λ r l t. voted_stays e f b.view id r within t) in
    omega (arith, cert)

stands_stays : (c : Committee) (e f : Evidence) (b : Header) → IsWithin e f → Stands c e b → Stands c f b
stands_stays c e f b within s = record {
  known = within.headers b s.known;
  certified = λ n. certified_stays c e f b within (s.certified n);
}

pub commits_stay : CommitsStay
commits_stay c e f b within p = record {
  no_genesis = p.no_genesis;
  chain = p.chain;
  is_chain = p.is_chain;
  chain_stands = λ h m. stands_stays c e f h within (p.chain_stands h m);
  second = p.second;
  second_parent = p.second_parent;
  second_view = p.second_view;
  second_stands = stands_stays c e f p.second within p.second_stands;
  third = p.third;
  third_parent = p.third_parent;
  third_view = p.third_view;
  third_stands = stands_stays c e f p.third within p.third_stands;
}

-- ---- conflicts

module _ (e f : Evidence) (genesis : Header) (g : Rattle.blocks.specs.Headers.IsGenesis genesis) (within : IsWithin e f) (apart : NoCollision f.headers) where
  chain_stays : (b : Header) (ps : List Header) → IsChainIn e.headers genesis b ps → IsChainIn f.headers genesis b ps
  chain_stays b ps chain = (chain.0, λ h m. within.headers h (chain.1 h m))

  linked_stays : (b : Header) → IsLinked e.headers genesis b → IsLinked f.headers genesis b
  linked_stays b l = (l.0, chain_stays b l.0 l.1)

  -- a linked block gains no ancestors
  no_new_ancestor : (a b : Header) → IsLinked e.headers genesis b → IsAncestor f.headers genesis a b → IsAncestor e.headers genesis a b
  no_new_ancestor a b l n =
      let same : n.0 ≡ l.0 = one_chain f.headers genesis b n.0 l.0 g apart n.1 (chain_stays b l.0 l.1) in
      (l.0, l.1, subst (λ (ps : List Header). Contains ps a) same n.2)

  conflict_stays : (a b : Header) → Conflict e.headers genesis a b → Conflict f.headers genesis a b
  conflict_stays a b x = record {
    first_linked = linked_stays a x.first_linked;
    second_linked = linked_stays b x.second_linked;
    differ = x.differ;
    not_below = λ n. x.not_below (no_new_ancestor a b x.second_linked n);
    not_above = λ n. x.not_above (no_new_ancestor b a x.first_linked n);
  }

pub conflicts_stay : ConflictsStay
conflicts_stay c e f a b g is within x = record {
  first = commits_stay c e f a within x.first;
  second = commits_stay c e f b within x.second;
  in_order = x.in_order;
  conflict = conflict_stays e f c.genesis g within (apart_in f.headers is.headers_rise) a b x.conflict;
}

pub first_conflicts_fall : FirstConflictsFall
first_conflicts_fall c e f a b x y g is within old new = new.least_first a b (conflicts_stay c e f a b g is within old.conflicting)

-- ---- weight

among : (xs : List ℕ) (r : ℕ) → is_among xs r ≡ true → Contains xs r
among xs r t =
    let x = list_any-Has (Rattle.std.specs.Prelude.nat_eq r) xs t in
    subst (Contains xs) (sym (Rattle.std.proofs.lemmas.Bool.eqb-true r x.0 x.2)) (Contains-from_Has xs x.0 x.1)

pub weight_grows : AccusedWeightGrows
weight_grows c e f qs rs within old new =
    weight_within c.weight (is_among qs) rs c.size (λ r l t.
    Has-from_Contains rs r ((new.exact r).1 (culprits_stay e f r within ((old.exact r).0 (among qs r t)))))
