-- What is proved stays proved as evidence is added.
use Rattle.std.proofs.Common.{◌≡◌, ℕ, List, [], ◌∷◌, Bool, true, false, ◌||◌, refl, sym, subst, inl, inr, arith}
use Rattle.std.specs.List.{list_any}
use Rattle.std.specs.Prelude.{IsTrue}
use Rattle.blocks.specs.Headers.{Header, header_id}
use Rattle.blocks.specs.Weights.{Committee, committee_of}
use Rattle.blocks.proofs.Members.{Has, Has-from_Contains, Contains-from_Has}
use Rattle.audit_evidence.specs.Evidence.{Evidence}
use Rattle.audit_commits.specs.Commits.{is_vote_on, has_vote, IsCertified, Stands, IsProvedCommit}
use Rattle.audit_commits.proofs.Weights.{weight_more, list_any-Has}
use Rattle.handover_blocks.specs.Handovers.{IsFirstCommitted, IsSuccessor, Includes, IsHandover}
use Rattle.handover_blocks.specs.HandoverLaws.{HandoversStayProved, SuccessorsInTwoHandsAccuse}
use Rattle.handover_blocks.proofs.Firsts.{Laws, successors_accuse}

passes : {X : Type 0} (p : X → Bool) (xs : List X) (x : X) → Has xs x → p x ≡ true → list_any p xs ≡ true
passes p [] x m t = absurd m
passes p (y ∷ ys) x m t =
    elim m [
      | inl e ↦ let s : p y ≡ true = subst (λ z. p z ≡ true) (sym e) t in rw s refl
      | inr n ↦ elim (p y) as (λ b. (b || list_any p ys) ≡ true) [ true ↦ refl | false ↦ passes p ys x n t ]
    ]

certified : (c : Committee) (e part : Evidence) (b : Header) → Includes e part → IsCertified c part b → IsCertified c e b
unfolding IsCertified
certified c e part b i q =
    let k = weight_more c.weight (has_vote part.votes b.view (header_id b)) (has_vote e.votes b.view (header_id b)) c.size (λ r l t.
    let f = list_any-Has (is_vote_on b.view (header_id b) r) part.votes t in
    passes (is_vote_on b.view (header_id b) r) e.votes f.0 (Has-from_Contains e.votes f.0 (i.votes f.0 (Contains-from_Has part.votes f.0 f.1))) f.2) in
    omega arith

stands : (c : Committee) (e part : Evidence) (b : Header) → Includes e part → Stands c part b → Stands c e b
stands c e part b i s = record { known = i.headers b s.known; certified = λ d. certified c e part b i (s.certified d) }

commit_stays : (c : Committee) (e part : Evidence) (b : Header) → Includes e part → IsProvedCommit c part b → IsProvedCommit c e b
commit_stays c e part b i m = record {
  no_genesis = m.no_genesis;
  chain = m.chain;
  is_chain = m.is_chain;
  chain_stands = λ h n. stands c e part h i (m.chain_stands h n);
  second = m.second;
  second_parent = m.second_parent;
  second_view = m.second_view;
  second_stands = stands c e part m.second i m.second_stands;
  third = m.third;
  third_parent = m.third_parent;
  third_view = m.third_view;
  third_stands = stands c e part m.third i m.third_stands;
}

first_stays : (c : Committee) (e part : Evidence) (Is : Header → Type 0) (b : Header) → Includes e part → IsFirstCommitted c part Is b → IsFirstCommitted c e Is b
unfolding commit_stays
first_stays c e part Is b i m = record { tip = m.tip; commit = commit_stays c e part m.tip i m.commit; place = m.place; kind = m.kind; first = m.first }

successor_stays : (e part : Evidence) (new : List ℕ) → Includes e part → IsSuccessor part new → IsSuccessor e new
successor_stays e part new i s = record {
  block = s.block;
  first = subst (λ (bytes : List ℕ). IsFirstCommitted (committee_of bytes) e IsHandover s.block) i.committee (first_stays (committee_of part.committee) e part IsHandover s.block i s.first);
  names = s.names;
}

pub stays : HandoversStayProved
stays e part i =
    (λ c b m. commit_stays c e part b i m, λ c is b m. first_stays c e part (λ h. IsTrue (is h)) b i m, λ new s. successor_stays e part new i s)

pub in_two_hands : Laws → SuccessorsInTwoHandsAccuse
in_two_hands laws e mine yours new other named is i j s t differ all =
    successors_accuse laws e new other named is (successor_stays e mine new i s) (successor_stays e yours other j t) differ all
