-- Where no two commits conflict, there is one first handover.
use Rattle.std.proofs.Common.{◌⊎◌, ◌≤◌, List, [], ◌∷◌, refl, sym, ap, inl, inr, arith}
use Rattle.std.proofs.lemmas.Bool.{cases_lt}
use Rattle.std.specs.List.{Contains}
use Rattle.blocks.specs.Headers.{Header, IsGenesis, header_id}
use Rattle.blocks.specs.Chains.{AllIn, NoCollision}
use Rattle.blocks.specs.Weights.{committee_of}
use Rattle.blocks.proofs.Members.{Has, Has-from_Contains, Contains-from_Has, Contains-first, Contains-later}
use Rattle.audit_evidence.specs.Evidence.{Evidence, IsEvidence}
use Rattle.audit_commits.specs.AccountabilityLaws.{EvidenceNamesEachHeaderOnce}
use Rattle.audit_commits.specs.Commits.{HasNoConflict, IsProvedCommit}
use Rattle.handover_blocks.specs.Handovers.{IsHandover}
use Rattle.handover_blocks.specs.HandoverLaws.{FirstsStandInTheHighestChain, OneFirstWhereNoneConflict}
use Rattle.handover_blocks.proofs.Firsts.{AreChains, ancestor_in, below, chain_in, one_first, within}
use Rattle.handover_blocks.proofs.Texts.{one_or_two}

-- whether a header stands among others, by their ids
has_or_not : (hs : List Header) (t : Header) (us : List Header) → NoCollision hs → Contains hs t → AllIn hs us → Has us t ⊎ (Has us t → ⊥)
has_or_not hs t [] apart there all = inr (λ m. m)
has_or_not hs t (u ∷ us) apart there all =
    elim (one_or_two (header_id u) (header_id t)) [
      | inl same ↦ inl (inl (apart u t (all u (Contains-first u us)) there same))
      | inr differ ↦ elim (has_or_not hs t us apart there (λ h m. all h (Contains-later u us h m))) [
        | inl m ↦ inl (inr m)
        | inr none ↦ inr (λ m. elim m [ inl e ↦ differ (ap (λ (h : Header). header_id h) e) | inr later ↦ none later ])
      ]
    ]

-- a commit stands in the chain of one of no lower view
in_higher : EvidenceNamesEachHeaderOnce → (e : Evidence) (u t : Header) → IsEvidence e → HasNoConflict (committee_of e.committee) e
    → (m : IsProvedCommit (committee_of e.committee) e u) → IsProvedCommit (committee_of e.committee) e t → t.view ≤ u.view → Has (u ∷ m.chain) t
in_higher named_once e u t is none m k low =
    let c = committee_of e.committee in
    let hs = e.headers in
    let g : IsGenesis c.genesis = record { view = refl; parent_view = refl } in
    let apart = named_once e is in
    let cu = chain_in c e u m in
    let ct = chain_in c e t k in
    elim (has_or_not hs t (u ∷ m.chain) apart (ct.1 t (Contains-first t k.chain)) cu.1) [
      | inl there ↦ there
      | inr out ↦ absurd (none t u k m (record {
        first_linked = (k.chain, ct);
        second_linked = (m.chain, cu);
        differ = λ same. out (inl (sym same));
        not_below = λ anc. out (ancestor_in hs c.genesis u m.chain t g apart cu anc);
        not_above = λ anc. (let l = below c.genesis t anc.0 u anc.1.0 (Has-from_Contains anc.0 u anc.2) in omega arith);
      }))
    ]

pub in_highest : EvidenceNamesEachHeaderOnce → FirstsStandInTheHighestChain
in_highest named_once e u b is none m k low =
    let c = committee_of e.committee in
    let t = k.tip in
    let a : AreChains e.headers c.genesis u m.chain t k.commit.chain =
    record { genesis_is = record { view = refl; parent_view = refl }; apart = named_once e is; longer = chain_in c e u m; shorter = chain_in c e t k.commit } in
    Contains-from_Has (u ∷ m.chain) b (within e.headers c.genesis u m.chain t k.commit.chain b a (in_higher named_once e u t is none m k.commit low) (Has-from_Contains (t ∷ k.commit.chain) b k.place))

pub alone : EvidenceNamesEachHeaderOnce → OneFirstWhereNoneConflict
alone named_once e b d is none m k =
    let c = committee_of e.committee in
    let g : IsGenesis c.genesis = record { view = refl; parent_view = refl } in
    let apart = named_once e is in
    elim (cases_lt m.tip.view k.tip.view) [
      | inl l ↦ one_first c e IsHandover b d g apart m k (in_higher named_once e k.tip m.tip is none k.commit m.commit (omega arith))
      | inr l ↦ sym (one_first c e IsHandover d b g apart k m (in_higher named_once e m.tip k.tip is none m.commit k.commit l))
    ]
