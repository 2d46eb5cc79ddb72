-- Pairs of blocks that conflict, found one after the other.
use Rattle.std.proofs.Common.{◌≡◌, ◌↔◌, Bool, true, false, not, inl, inr, ℕ, suc, ◌<◌, List, [], ◌∷◌, ◌-◌, ◌≤◌, length, get_or, take, drop, Option, Some, None, refl, sym, ◌∙◌, ap, subst, arith}
use Rattle.std.specs.Prelude.{IsTrue, MatchOption}
use Rattle.std.specs.List.{All, AllPairs, Contains}
use Rattle.std.proofs.lemmas.Bool.{cases_lt, false≢true}
use Rattle.std.proofs.lemmas.List.{get_or_default, get_or-take, length-take-le, take_all}
use Rattle.std.proofs.lemmas.List.Elements.{All-contains}
use Rattle.std.proofs.lemmas.List.Kept.{AllPairs-cons}
use Rattle.blocks.specs.Chains.{Conflict, IsAncestor, IsChainIn, IsLinked}
use Rattle.blocks.proofs.Chains.{one_chain}
use Rattle.blocks.specs.Genesis.{genesis_of}
use Rattle.blocks.specs.Headers.{Header, header_id}
use Rattle.blocks.proofs.Members.{Contains-first, Contains-later}
use Rattle.ancestry.specs.Known.{Known, IsKnown, all_of, IsLinkedId, IsAncestorId}
use Rattle.ancestry.proofs.Walks.{ancestor_is, head_or_later, linked_is}
use Rattle.audit_evidence.specs.Evidence.{Evidence, IsEvidence}
use Rattle.blocks.specs.Weights.{committee_of}
use Rattle.audit_commits.specs.Commits.{AreConflicting, AreFirstConflict, AreProvedCommits, HasNoConflict, IsAtMost, IsLowerBlock, IsProvedCommit}
use Rattle.audit_commits.specs.declared.conflicts.ConflictingCommits.{ConflictingCommits}
use Rattle.audit_commits.specs.Pairs.{Agree, AreConflictingIn, AreFirstIn, DoConflict, IsLeastConflictWith, IsNoAncestor}
use Rattle.audit_commits.specs.Chosen.{AreCertifiedHeaders}
use Rattle.audit_commits.proofs.CommitFacts.{AreCertified, evidence_apart, genesis_is, index_is, known_stands, stands_in, with_genesis}
use Rattle.audit_commits.proofs.Orders.{not_lower, lower_lower}

-- ---- by ids

no_ancestor : (known : Known) (x y : List ℕ) (a b : Header) → IsKnown known → Contains (all_of known) a → Contains (all_of known) b → header_id a ≡ x → header_id b ≡ y
    → IsLinkedId known x × IsLinkedId known y → (IsAncestorId known x y → ⊥) → IsNoAncestor known a b
no_ancestor known x y a b is in_a in_b named_a named_b linked none = record {
  first_linked = linked_is known x a is in_a named_a linked.0;
  second_linked = linked_is known y b is in_b named_b linked.1;
  not_above = λ above. none (a, b, named_a, named_b, above);
}

pub by_answer : (known : Known) (x y : List ℕ) (a b : Header) (r : Bool) → IsKnown known → Contains (all_of known) a → Contains (all_of known) b → header_id a ≡ x → header_id b ≡ y
    → IsLinkedId known x × IsLinkedId known y → IsTrue r ↔ IsAncestorId known x y → IsTrue (not r) ↔ IsNoAncestor known a b
by_answer known x y a b true is in_a in_b named_a named_b linked test =
    (λ t. absurd (false≢true t), λ apart. absurd (apart.not_above (ancestor_is known x y a b is in_a in_b named_a named_b (test.0 refl))))
by_answer known x y a b false is in_a in_b named_a named_b linked test =
    (λ _. no_ancestor known x y a b is in_a in_b named_a named_b linked (λ above. false≢true (test.1 above)), λ _. refl)

-- ---- the least of rising blocks

pub least_at : (known : Known) (a : Header) (bs : List Header) (i : ℕ) (b : Header) → AllPairs IsLowerBlock bs → i < length bs → b ≡ get_or bs i b → All (Agree known a) (take i bs) → DoConflict known a b
    → IsLeastConflictWith known a bs b
least_at known a bs i b rising there is before conflict = record {
  there = (i, there, sym is);
  conflict = conflict;
  least = λ y c k. least y c k;
}
  where
    least : (y : Header) → Contains bs y → DoConflict known a y → IsAtMost b y
    least y (j, in_j, at_j) k =
        let at : get_or bs j b ≡ y = get_or_default bs j b y in_j ∙ at_j in
        elim (cases_lt j i) [
          | inl earlier ↦
              let len : length (take i bs) ≡ i = length-take-le i bs (omega arith) in
              let placed : get_or (take i bs) j b ≡ y = get_or-take i bs j b earlier ∙ at in
              absurd (subst (Agree known a) placed (before j b (omega arith)) k)
          | inr past ↦ elim (cases_lt i j) [
            | inl behind ↦ inr (subst (IsLowerBlock b) at (subst (λ (h : Header). IsLowerBlock h (get_or bs j b)) (sym is) (rising i j b behind in_j)))
            | inr le ↦ let same : i ≡ j = omega arith in inl (is ∙ ap (λ (n : ℕ). get_or bs n b) same ∙ at)
          ]
        ]

-- ---- one block before others

-- a list with an element is that element and those behind it
pub split : (xs : List Header) (x : Header) → 1 ≤ length xs → x ≡ get_or xs 0 x → xs ≡ x ∷ take (length xs - 1) (drop 1 xs)
split [] x some is = absurd (omega arith)
split (y ∷ ys) x some is = ap (λ (h : Header). h ∷ ys) (sym is) ∙ ap (λ (zs : List Header). x ∷ zs) (sym (take_all (length (y ∷ ys) - 1) ys (omega arith)))

head_lower : (x : Header) (xs : List Header) → AllPairs IsLowerBlock (x ∷ xs) → (y : Header) → Contains xs y → IsLowerBlock x y
head_lower x xs rising y (k, l, at) = subst (IsLowerBlock x) at (rising 0 (suc k) y (omega arith) (omega arith))

pub rises_later : (x : Header) (xs : List Header) → AllPairs IsLowerBlock (x ∷ xs) → AllPairs IsLowerBlock xs
rises_later x xs rising i j d less there = rising (suc i) (suc j) d (omega arith) (omega arith)

pub none_before : (known : Known) (x : Header) (xs : List Header) → All (Agree known x) xs → AllPairs (Agree known) xs → AllPairs (Agree known) (x ∷ xs)
none_before known x xs none others = AllPairs-cons (Agree known) x xs none others

pub found_here : (known : Known) (x : Header) (xs : List Header) (b : Header) → AllPairs IsLowerBlock (x ∷ xs) → IsLeastConflictWith known x xs b → AreFirstIn known (x ∷ xs) x b
found_here known x xs b rising least = record {
  conflicting = record {
    first = Contains-first x xs;
    second = Contains-later x xs b least.there;
    in_order = head_lower x xs rising b least.there;
    conflict = least.conflict;
  };
  least_first = λ y z c. elim (head_or_later x xs y c.first) [ inl here ↦ inl here | inr later ↦ inr (head_lower x xs rising y later) ];
  least_second = λ z c. elim (head_or_later x xs z c.second) [
    | inl here ↦ absurd (not_lower x (subst (IsLowerBlock x) (sym here) c.in_order))
    | inr later ↦ least.least z later c.conflict
  ];
}

conflict_later : (known : Known) (x : Header) (xs : List Header) (y z : Header) → AllPairs IsLowerBlock (x ∷ xs) → All (Agree known x) xs → AreConflictingIn known (x ∷ xs) y z → AreConflictingIn known xs y z
conflict_later known x xs y z rising none c =
    elim (head_or_later x xs z c.second) [
      | inl z_here ↦ elim (head_or_later x xs y c.first) [
        | inl here ↦ absurd (not_lower x (subst (λ (h : Header). IsLowerBlock h x) (sym here) (subst (IsLowerBlock y) (sym z_here) c.in_order)))
        | inr later ↦ absurd (not_lower x (lower_lower x y x (head_lower x xs rising y later) (subst (IsLowerBlock y) (sym z_here) c.in_order)))
      ]
      | inr z_later ↦ elim (head_or_later x xs y c.first) [
        | inl here ↦ absurd (All-contains (Agree known x) xs z none z_later (subst (λ (h : Header). DoConflict known h z) (sym here) c.conflict))
        | inr later ↦ record { first = later; second = z_later; in_order = c.in_order; conflict = c.conflict }
      ]
    ]

pub found_later : (known : Known) (x : Header) (xs : List Header) (a b : Header) → AllPairs IsLowerBlock (x ∷ xs) → All (Agree known x) xs → AreFirstIn known xs a b → AreFirstIn known (x ∷ xs) a b
found_later known x xs a b rising none f = record {
  conflicting = record {
    first = Contains-later x xs a f.conflicting.first;
    second = Contains-later x xs b f.conflicting.second;
    in_order = f.conflicting.in_order;
    conflict = f.conflicting.conflict;
  };
  least_first = λ y z c. f.least_first y z (conflict_later known x xs y z rising none c);
  least_second = λ z c. f.least_second z (conflict_later known x xs a z rising none c);
}

-- ---- in evidence

-- a certified header is in evidence, and genesis is
known_in : (e : Evidence) (hs : List Header) → IsEvidence e → AreCertified e hs → (h : Header) → Contains (all_of (with_genesis e hs)) h → Contains e.headers h
known_in e hs is a h there = (stands_in e hs h is a there).known

module _ (e : Evidence) (hs : List Header) (is : IsEvidence e) (a : AreCertified e hs) where
  -- the certified headers with genesis, and the chains of both lists
  known : List Header
  known = all_of (with_genesis e hs)

  g : Header
  g = genesis_of e.committee

  chain_in_evidence : (b : Header) (ps : List Header) → IsChainIn known g b ps → IsChainIn e.headers g b ps
  unfolding known g
  chain_in_evidence b ps c = (c.0, λ h m. known_in e hs is a h (c.1 h m))

  -- a block with a certified chain has no other chain in evidence
  only_chain : (b : Header) (ps qs : List Header) → IsChainIn known g b ps → IsChainIn e.headers g b qs → qs ≡ ps
  unfolding known g
  only_chain b ps qs c d = one_chain e.headers g b qs ps (genesis_is e) (evidence_apart e is) d (chain_in_evidence b ps c)

  ancestor_in_evidence : (x y : Header) → IsAncestor known g x y → IsAncestor e.headers g x y
  unfolding known g
  ancestor_in_evidence x y l = (l.0, chain_in_evidence y l.0 l.1, l.2)

  ancestor_certified : (x y : Header) → IsLinked known g y → IsAncestor e.headers g x y → IsAncestor known g x y
  unfolding known g
  ancestor_certified x y linked l = (linked.0, linked.1, subst (λ (ps : List Header). Contains ps x) (only_chain y linked.0 l.0 linked.1 l.1) l.2)

  conflict_in_evidence : (x y : Header) → Conflict known g x y → Conflict e.headers g x y
  unfolding known g
  conflict_in_evidence x y c = record {
    first_linked = (c.first_linked.0, chain_in_evidence x c.first_linked.0 c.first_linked.1);
    second_linked = (c.second_linked.0, chain_in_evidence y c.second_linked.0 c.second_linked.1);
    differ = c.differ;
    not_below = λ l. c.not_below (ancestor_certified x y c.second_linked l);
    not_above = λ l. c.not_above (ancestor_certified y x c.first_linked l);
  }

  conflict_certified : (x y : Header) → IsLinked known g x → IsLinked known g y → Conflict e.headers g x y → Conflict known g x y
  unfolding known g
  conflict_certified x y p q c = record {
    first_linked = p;
    second_linked = q;
    differ = c.differ;
    not_below = λ l. c.not_below (ancestor_in_evidence x y l);
    not_above = λ l. c.not_above (ancestor_in_evidence y x l);
  }

  -- a proved commit has a certified chain
  commit_linked : (b : Header) → IsProvedCommit (committee_of e.committee) e b → IsLinked known g b
  unfolding known g
  commit_linked b p = (p.chain, (p.is_chain, λ h m. known_stands e hs h is a (p.chain_stands h m)))

turned : (hs : List Header) (g a b : Header) → Conflict hs g a b → Conflict hs g b a
turned hs g a b c = record { first_linked = c.second_linked; second_linked = c.first_linked; differ = λ same. c.differ (sym same); not_below = c.not_above; not_above = c.not_below }

no_conflict : (e : Evidence) (hs commits : List Header) → IsEvidence e → AreCertified e hs → AreProvedCommits (committee_of e.committee) e commits → AllPairs (Agree (with_genesis e hs)) commits
    → HasNoConflict (committee_of e.committee) e
unfolding known g
no_conflict e hs commits is these are agree a b p q c = at_places ((are.exact a).1 p) ((are.exact b).1 q)
  where
    there : DoConflict (with_genesis e hs) a b
    there = conflict_certified e hs is these a b (commit_linked e hs is these a p) (commit_linked e hs is these b q) c

    at_places : Contains commits a → Contains commits b → ⊥
    at_places (i, in_i, at_i) (j, in_j, at_j) =
        let second : get_or commits j a ≡ b = get_or_default commits j a b in_j ∙ at_j in
        elim (cases_lt i j) [
          | inl less ↦ subst (λ (h : Header). Agree (with_genesis e hs) h b) at_i (subst (Agree (with_genesis e hs) (get_or commits i a)) second (agree i j a less in_j)) there
          | inr past ↦ elim (cases_lt j i) [
            | inl more ↦
                subst (λ (h : Header). Agree (with_genesis e hs) h a) second (subst (Agree (with_genesis e hs) (get_or commits j a)) at_i (agree j i a more in_i))
                (turned (all_of (with_genesis e hs)) (genesis_of e.committee) a b there)
            | inr le ↦ let same : i ≡ j = omega arith in there.differ (sym at_i ∙ ap (λ (n : ℕ). get_or commits n a) same ∙ second)
          ]
        ]

to_evidence : (e : Evidence) (hs commits : List Header) (a b : Header) → IsEvidence e → AreCertified e hs → AreProvedCommits (committee_of e.committee) e commits → AreConflictingIn (with_genesis e hs) commits a b
    → AreConflicting (committee_of e.committee) e a b
unfolding known g
to_evidence e hs commits a b is these are c = record {
  first = (are.exact a).0 c.first;
  second = (are.exact b).0 c.second;
  in_order = c.in_order;
  conflict = conflict_in_evidence e hs is these a b c.conflict;
}

from_evidence : (e : Evidence) (hs commits : List Header) (a b : Header) → IsEvidence e → AreCertified e hs → AreProvedCommits (committee_of e.committee) e commits → AreConflicting (committee_of e.committee) e a b
    → AreConflictingIn (with_genesis e hs) commits a b
unfolding known g
from_evidence e hs commits a b is these are c = record {
  first = (are.exact a).1 c.first;
  second = (are.exact b).1 c.second;
  in_order = c.in_order;
  conflict = conflict_certified e hs is these a b (commit_linked e hs is these a c.first) (commit_linked e hs is these b c.second) c.conflict;
}

-- ---- in the index of the certified headers

pub found_is : (e : Evidence) (commits : List Header) (k : Known) (o : Option ConflictingCommits) → IsEvidence e → AreCertifiedHeaders e k → AreProvedCommits (committee_of e.committee) e commits
    → MatchOption o (AllPairs (Agree k) commits) (λ pair. AreFirstIn k commits pair.first pair.second)
    → MatchOption o (HasNoConflict (committee_of e.committee) e) (λ pair. AreFirstConflict (committee_of e.committee) e pair.first pair.second)
found_is e commits k None is these are none = no_conflict e k.headers commits is these.certified are (subst (λ (x : Known). AllPairs (Agree x) commits) (index_is e k these) none)
found_is e commits k (Some pair) is these are found =
    let f = subst (λ (x : Known). AreFirstIn x commits pair.first pair.second) (index_is e k these) found in
    record {
      conflicting = to_evidence e k.headers commits pair.first pair.second is these.certified are f.conflicting;
      least_first = λ x y c. f.least_first x y (from_evidence e k.headers commits x y is these.certified are c);
      least_second = λ y c. f.least_second y (from_evidence e k.headers commits pair.first y is these.certified are c);
    }
