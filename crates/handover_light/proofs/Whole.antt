-- A light proof, and the chain that it leaves out, prove the first handover.
use Rattle.std.proofs.Common.{◌≡◌, ◌≢◌, ℕ, suc, ◌+◌, ◌<◌, ◌≤◌, List, ◌∷◌, length, refl, ◌∙◌, ap, subst, inl, inr, arith}
use Rattle.std.specs.List.{Contains}
use Rattle.std.proofs.lemmas.Bool.{cases_lt}
use Rattle.blocks.specs.Headers.{Header, NamesParent}
use Rattle.blocks.specs.Genesis.{genesis_of}
use Rattle.blocks.specs.Weights.{committee_of}
use Rattle.blocks.proofs.Members.{Has-from_Contains, Contains-from_Has}
use Rattle.audit_evidence.specs.Evidence.{Evidence}
use Rattle.audit_commits.specs.Commits.{IsCertified, IsProvedCommit, Stands}
use Rattle.handover_blocks.specs.Handovers.{IsFirstCommitted, IsHandover}
use Rattle.handover_light.specs.LightProofs.{LightProof, IsLightProof}
use Rattle.handover_light.specs.Proving.{ProvesHandover, certified_header, committed_place, handover_block, nth_certificate, nth_header}
use Rattle.handover_light.specs.LightProofLaws.{ALightProofIsAFirstHandover, HasLightProof, ShowsChain}
use Rattle.handover_light.proofs.Climbing.{above_genesis, climb, contains_nth, in_under, not_below_first, parent_of, under, under_nth}
use Rattle.handover_light.proofs.Quorums.{certified_by}

-- a light proof that evidence has
pub record Given (e : Evidence) (p : LightProof) : Type 0 where
  pub is : IsLightProof p
  pub proves : ProvesHandover e.committee p
  pub has : HasLightProof e p

-- the place of the header that certificate c is on
pub place_below : (p : LightProof) (c : ℕ) → IsLightProof p → c < 3 → committed_place p + c < length p.headers
place_below p c is small = let least = is.least in omega arith

-- that header is known and certified
pub certified_at : (e : Evidence) (p : LightProof) (c : ℕ) → Given e p → c < 3 → IsCertified (committee_of e.committee) e (certified_header p c)
certified_at e p c g small =
    let by = g.proves.certified c small in
    certified_by e (certified_header p c) (nth_certificate p c) by.on by.quorum (g.has.votes c small)

pub known_at : (e : Evidence) (p : LightProof) (k : ℕ) → Given e p → k < length p.headers → Contains e.headers (nth_header p k)
known_at e p k g below = g.has.headers (nth_header p k) (contains_nth p k below)

pub stands_at : (e : Evidence) (p : LightProof) (c : ℕ) → Given e p → c < 3 → Stands (committee_of e.committee) e (certified_header p c)
stands_at e p c g small = record {
  known = known_at e p (committed_place p + c) g (place_below p c g.is small);
  certified = λ _. certified_at e p c g small;
}

-- no header of it is genesis
pub not_genesis : (e : Evidence) (p : LightProof) (k : ℕ) → Given e p → k < length p.headers → nth_header p k ≢ genesis_of e.committee
not_genesis e p k g below same =
    let up = above_genesis p k g.is g.proves.chain below in
    let zero_view = ap (λ (h : Header). h.view) same in
    omega arith

-- one certified header is on the other
next_certified : (p : LightProof) (c d : ℕ) → IsLightProof p → (e : Evidence) → ProvesHandover e.committee p → d < 3 → d ≡ suc c → NamesParent (certified_header p d) (certified_header p c)
next_certified p c d is e proves small next =
    parent_of p (committed_place p + d) (committed_place p + c) proves.chain (omega arith) (place_below p d is small)

-- ---- the commit

stands_in : (e : Evidence) (p : LightProof) (chain : List Header) → Given e p → ShowsChain e p chain
    → (h : Header) → Contains (certified_header p 0 ∷ under p (committed_place p + 0) chain) h → Stands (committee_of e.committee) e h
stands_in e p chain g shows h m =
    let place = committed_place p + 0 in
    elim (in_under p place chain h (Has-from_Contains (certified_header p 0 ∷ under p place chain) h m)) [
      | inr later ↦ shows.stands h (Contains-from_Has chain h later)
      | inl found ↦
          let low = found.1 in
          elim (cases_lt found.0 (committed_place p)) [
            | inl below ↦ subst (λ (x : Header). Stands (committee_of e.committee) e x) found.2 (shows.between found.0 below)
            | inr past ↦
                let at : place ≡ found.0 = omega arith in
                subst (λ (x : Header). Stands (committee_of e.committee) e x) (ap (nth_header p) at ∙ found.2) (stands_at e p 0 g (omega arith))
          ]
    ]

commit : (e : Evidence) (p : LightProof) (chain : List Header) → Given e p → ShowsChain e p chain → IsProvedCommit (committee_of e.committee) e (certified_header p 0)
commit e p chain g shows =
    let place = committed_place p + 0 in
    let below = place_below p 0 g.is (omega arith) in
    record {
      no_genesis = not_genesis e p place g below;
      chain = under p place chain;
      is_chain = climb (genesis_of e.committee) p place chain g.is g.proves.chain below shows.is_chain;
      chain_stands = stands_in e p chain g shows;
      second = certified_header p 1;
      second_parent = next_certified p 0 1 g.is e g.proves (omega arith) refl;
      second_view = g.proves.chain.views.second;
      second_stands = stands_at e p 1 g (omega arith);
      third = certified_header p 2;
      third_parent = next_certified p 1 2 g.is e g.proves (omega arith) refl;
      third_view = g.proves.chain.views.third;
      third_stands = stands_at e p 2 g (omega arith);
    }

-- the first block of the kind in the chain
first_here : (e : Evidence) (p : LightProof) (chain : List Header) → Given e p → ShowsChain e p chain
    → (h : Header) → Contains (certified_header p 0 ∷ under p (committed_place p + 0) chain) h → IsHandover h → (handover_block p).view ≤ h.view
first_here e p chain g shows h m hands =
    let place = committed_place p + 0 in
    let below = place_below p 0 g.is (omega arith) in
    elim (in_under p place chain h (Has-from_Contains (certified_header p 0 ∷ under p place chain) h m)) [
      | inr later ↦ absurd (shows.first h (Contains-from_Has chain h later) hands)
      | inl found ↦
          let low = found.1 in
          let up = not_below_first p found.0 g.is g.proves.chain (omega arith) in
          subst (λ (x : Header). (handover_block p).view ≤ x.view) found.2 up
    ]

pub first_of_given : (e : Evidence) (p : LightProof) (chain : List Header) → Given e p → ShowsChain e p chain
    → IsFirstCommitted (committee_of e.committee) e IsHandover (handover_block p)
unfolding commit
first_of_given e p chain g shows =
    let place = committed_place p + 0 in
    record {
      tip = certified_header p 0;
      commit = commit e p chain g shows;
      place = Contains-from_Has (certified_header p 0 ∷ under p place chain) (handover_block p) (under_nth p place 0 chain (omega arith));
      kind = g.proves.chain.handover;
      first = first_here e p chain g shows;
    }

pub whole : ALightProofIsAFirstHandover
whole e p chain is proves has shows = first_of_given e p chain (record { is = is; proves = proves; has = has }) shows
