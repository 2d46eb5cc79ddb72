-- What is found among the certified headers is what evidence proves.
use Rattle.std.proofs.Common.{◌≡◌, ◌≤◌, List, ◌∷◌, Option, Some, None, refl, sym, ap, subst, inl, inr, arith}
use Rattle.std.specs.Prelude.{IfSome}
use Rattle.std.specs.List.{Contains}
use Rattle.std.proofs.lemmas.List.Elements.{All-contains}
use Rattle.blocks.specs.Headers.{Header, IsGenesis}
use Rattle.blocks.specs.Chains.{IsChainIn}
use Rattle.blocks.specs.Weights.{committee_of}
use Rattle.blocks.proofs.Chains.{one_chain}
use Rattle.blocks.proofs.Members.{Has-from_Contains, Contains-from_Has, Contains-first, Contains-later}
use Rattle.ancestry.specs.Known.{Known, IsKnown, all_of}
use Rattle.ancestry.proofs.Ids.{apart}
use Rattle.audit_evidence.specs.Evidence.{Evidence, IsEvidence}
use Rattle.audit_commits.specs.Commits.{IsProvedCommit}
use Rattle.audit_commits.specs.Chosen.{AreCertifiedHeaders}
use Rattle.audit_commits.proofs.CommitFacts.{certified_known, index_is, known_stands}
use Rattle.handover_blocks.specs.Handovers.{IsFirstCommitted, IsHandover}
use Rattle.handover_search.specs.Searches.{IsBestOf, IsCandidate, IsInChainOf}

-- a proved commit and its chain among the certified headers
record Placed (known : Known) (tip : Header) (ps : List Header) : Type 0 where
  is_known : IsKnown known
  genesis : IsGenesis known.genesis
  chain : IsChainIn (all_of known) known.genesis tip ps

placed : (e : Evidence) (known : Known) (tip : Header) → IsEvidence e → AreCertifiedHeaders e known → (m : IsProvedCommit (committee_of e.committee) e tip) → Placed known tip m.chain
placed e known tip is are m =
    subst (λ (k : Known). Placed k tip m.chain) (sym (index_is e known are))
    (record {
      is_known = certified_known e known.headers is are.certified;
      genesis = record { view = refl; parent_view = refl };
      chain = (m.is_chain, λ h n. known_stands e known.headers h is are.certified (m.chain_stands h n));
    })

-- what hands over is above genesis, so it is one of the headers
among : (known : Known) (tip h : Header) (ps : List Header) → Placed known tip ps → Contains (tip ∷ ps) h → IsHandover h → Contains known.headers h × IsCandidate known tip h
among known tip h ps p there hands =
    let own = Has-from_Contains (all_of known) h (p.chain.1 h there) in (
      elim own [
        | inl e ↦ let k = ap (λ (x : Header). x.view) e in let g = p.genesis.view in let l = hands.above in absurd (omega arith)
        | inr n ↦ Contains-from_Has known.headers h n
      ],
      record {
        hands_over = hands;
        place = elim (Has-from_Contains (tip ∷ ps) h there) [
          | inl e ↦ inl (sym e)
          | inr n ↦ inr (ps, p.chain, Contains-from_Has ps h n)
        ];
      },
    )

stands : (known : Known) (tip h : Header) (ps : List Header) → Placed known tip ps → IsInChainOf known h tip → Contains (tip ∷ ps) h
stands known tip h ps p (inl e) = subst (λ (x : Header). Contains (x ∷ ps) h) e (Contains-first h ps)
stands known tip h ps p (inr a) =
    let same : a.0 ≡ ps = one_chain (all_of known) known.genesis tip a.0 ps p.genesis (apart known p.is_known) a.1 p.chain in
    Contains-later tip ps h (subst (λ (xs : List Header). Contains xs h) same a.2)

pub lifted : (e : Evidence) (known : Known) (tip : Header) (found : Option Header) → IsEvidence e → AreCertifiedHeaders e known → IsProvedCommit (committee_of e.committee) e tip
    → IsBestOf known tip known.headers found → IfSome found (IsFirstCommitted (committee_of e.committee) e IsHandover)
lifted e known tip None is are m best = tt
lifted e known tip (Some b) is are m best =
    let p = placed e known tip is are m in
    record {
      tip = tip;
      commit = m;
      place = stands known tip b m.chain p best.candidate.place;
      kind = best.candidate.hands_over;
      first = λ h there hands. (let c = among known tip h m.chain p there hands in All-contains (λ x. IsCandidate known tip x → b.view ≤ x.view) known.headers h best.least c.0 c.1);
    }

pub place_lifted : (e : Evidence) (known : Known) (tip : Header) (found : Option Header) → IsEvidence e → AreCertifiedHeaders e known → (m : IsProvedCommit (committee_of e.committee) e tip)
    → IsBestOf known tip known.headers found → IfSome found (Contains (tip ∷ m.chain))
place_lifted e known tip None is are m best = tt
place_lifted e known tip (Some b) is are m best = stands known tip b m.chain (placed e known tip is are m) best.candidate.place

pub none_lifted : (e : Evidence) (known : Known) (tip : Header) (found : Option Header) → IsEvidence e → AreCertifiedHeaders e known → (m : IsProvedCommit (committee_of e.committee) e tip)
    → IsBestOf known tip known.headers found → found ≡ None → (h : Header) → Contains (tip ∷ m.chain) h → IsHandover h → ⊥
none_lifted e known tip found is are m best none h there hands =
    let nobody : IsBestOf known tip known.headers None = subst (λ (o : Option Header). IsBestOf known tip known.headers o) none best in
    let c = among known tip h m.chain (placed e known tip is are m) there hands in
    All-contains (λ x. IsCandidate known tip x → ⊥) known.headers h nobody c.0 c.1
