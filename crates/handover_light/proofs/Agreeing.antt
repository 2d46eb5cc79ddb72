-- Light proofs of one committee have one handover, by the histories of correct replicas.
use Rattle.std.proofs.Common.{◌≡◌, ◌≢◌, ℕ, suc, ◌+◌, ◌*◌, ◌/◌, ◌<◌, ◌≤◌, List, [], ◌∷◌, true, false, nat_eq, refl, sym, ap, subst, inl, inr, arith}
use Rattle.std.specs.List.{Contains}
use Rattle.std.proofs.lemmas.Bool.{eqb-true}
use Rattle.blocks.specs.Headers.{Header, IsGenesis, header_id}
use Rattle.blocks.specs.Chains.{NoCollision}
use Rattle.blocks.specs.Committees.{n_of, weight_at}
use Rattle.blocks.specs.Genesis.{genesis_of}
use Rattle.blocks.specs.Replica.{headers_of}
use Rattle.blocks.specs.Rules.{NoRunHasADoubleVote, NoRunHasALockViolation}
use Rattle.blocks.specs.Weights.{committee_of, is_among, total_of}
use Rattle.blocks.proofs.Chains.{one_chain}
use Rattle.blocks.proofs.Members.{Has, Has-from_Contains, Contains-from_Has}
use Rattle.blocks.proofs.Within.{AllIn-first}
use Rattle.certificates.specs.Votes.{ballot_of}
use Rattle.certificates.specs.declared.vote.SignedVote.{SignedVote}
use Rattle.audit_evidence.specs.Evidence.{Evidence}
use Rattle.verdict_format.specs.declared.parts.Shown.TheVariants.{DoubleVote, LockViolation}
use Rattle.audit_commits.specs.AccountabilityLaws.{AConflictAccusesMoreThanAThird, weight_among}
use Rattle.audit_commits.specs.Commits.{Stands}
use Rattle.audit_commits.specs.Culprits.{AreCulprits, BreakARule, IsCulprit}
use Rattle.audit_commits.proofs.Weights.{list_any-Has, weight_more}
use Rattle.handover_blocks.specs.Handovers.{IsFirstCommitted, IsHandover}
use Rattle.handover_blocks.proofs.Firsts.{ancestor_in, chain_in, one_first}
use Rattle.handover_blocks.proofs.Texts.{one_or_two}
use Rattle.handover_light.specs.LightProofs.{LightProof}
use Rattle.handover_light.specs.Proving.{certified_header, committed_place, handover_block, nth_header}
use Rattle.handover_light.specs.Histories.{AreHistories, IsCorrect}
use Rattle.handover_light.specs.LightProofLaws.{ALightProofAgreesWithEvidence, LightProofsAgree, ShowsChain}
use Rattle.handover_light.proofs.Climbing.{descend, under, under_first, under_nth}
use Rattle.handover_light.proofs.Decided.{AreThoseBelow, suppose}
use Rattle.handover_light.proofs.Voters.{all_stand, shown}
use Rattle.handover_light.proofs.Whole.{Given, certified_at, first_of_given, known_at, not_genesis, place_below, stands_at}

-- what blocks and commit_search say of runs and of evidence
pub record Laws : Type 0 where
  pub no_double_vote : NoRunHasADoubleVote
  pub no_lock_violation : NoRunHasALockViolation
  pub accuse : AConflictAccusesMoreThanAThird

-- ---- the chain that a light proof leaves out is shown

shows : (e : Evidence) (faulty careless : List ℕ) (p : LightProof) → AreHistories e faulty careless → Given e p → (chain : List Header) × ShowsChain e p chain
shows e faulty careless p s g =
    let genesis = genesis_of e.committee in
    let is_genesis : IsGenesis genesis = record { view = refl; parent_view = refl } in
    let place = committed_place p + 0 in
    let inside = place_below p 0 g.is (omega arith) in
    let tip = shown e faulty careless (certified_header p 0) s (known_at e p place g inside) (certified_at e p 0 g (omega arith)) in
    let d = descend e.headers genesis p place tip.chain is_genesis s.apart g.has.headers g.is g.proves.chain inside tip.is_chain in
    let stand : (h : Header) → Has (nth_header p place ∷ under p place d.rest) h → Stands (committee_of e.committee) e h =
    λ h m. all_stand e faulty careless (certified_header p 0) tip.chain s tip.is_chain (stands_at e p 0 g (omega arith)) h
    (subst (λ (hs : List Header). Has (nth_header p place ∷ hs) h) (sym d.is) m) in
    let first_in = known_at e p 0 g (omega (arith, g.is.least)) in
    let block = stand (handover_block p) (under_nth p place 0 d.rest (omega arith)) in
    let other = not_genesis e p 0 g (omega (arith, g.is.least)) in
    let by = shown e faulty careless (handover_block p) s first_in (block.certified other) in
    let same : by.chain ≡ d.rest = one_chain e.headers genesis (handover_block p) by.chain d.rest is_genesis s.apart by.is_chain d.base in (
      d.rest,
      record {
        is_chain = d.base.0;
        stands = λ h m. stand h (under_first p place d.rest h (inr (Has-from_Contains d.rest h m)));
        between = λ k low. stand (nth_header p k) (under_nth p place k d.rest (omega arith));
        first = λ h m. by.first g.proves.chain.handover h (subst (λ (hs : List Header). Contains hs h) (sym same) m);
      },
    )

-- ---- no correct replica is a culprit

breaks_none : (e : Evidence) (r : ℕ) (v w : SignedVote) → Laws → NoCollision e.headers → IsCorrect e r → Contains e.votes v → Contains e.votes w
    → v.replica ≡ r → w.replica ≡ r → BreakARule e v w → ⊥
breaks_none e r v w laws apart correct mv mw bv bw (DoubleVote, broken) =
    laws.no_double_vote (genesis_of e.committee) correct.history.run (ballot_of v) (ballot_of w) correct.is_history.is_run
    (correct.signs_only v mv bv) (correct.signs_only w mw bw) broken
breaks_none e r v w laws apart correct mv mw bv bw (LockViolation h, broken) =
    let run = correct.history.run in
    let known = broken.0 in
    let all = AllIn-first e.headers h.earlier (h.parent ∷ h.later ∷ headers_of run) known.earlier
    (AllIn-first e.headers h.parent (h.later ∷ headers_of run) known.parent
    (AllIn-first e.headers h.later (headers_of run) known.later correct.at_hand.headers)) in
    laws.no_lock_violation (genesis_of e.committee) run (ballot_of v) (ballot_of w) h.earlier h.parent h.later
    (record { view = refl; parent_view = refl }) correct.is_history.is_run
    (correct.signs_only v mv bv) (correct.signs_only w mw bw)
    (λ x y mx my same. apart x y (all x mx) (all y my) same) broken.1

no_culprit : (e : Evidence) (r : ℕ) → Laws → NoCollision e.headers → IsCorrect e r → IsCulprit e r → ⊥
no_culprit e r laws apart correct culprit =
    let o = culprit.2 in
    breaks_none e r culprit.0 culprit.1 laws apart correct o.earlier o.later o.earlier_by o.later_by o.broken

-- ---- the culprits

-- a number above those of all voters
top : List SignedVote → ℕ
top [] = 0
top (v ∷ vs) = suc v.replica + top vs

below_top : (vs : List SignedVote) (v : SignedVote) → Has vs v → v.replica < top vs
unfolding top
below_top [] v m = absurd m
below_top (x ∷ xs) v (inl e) = let k = ap (λ (y : SignedVote). y.replica) e in omega arith
below_top (x ∷ xs) v (inr m) = let k = below_top xs v m in omega arith

culprit_below : (e : Evidence) (r : ℕ) → IsCulprit e r → r < top e.votes
culprit_below e r culprit =
    let o = culprit.2 in
    let k = below_top e.votes culprit.0 (Has-from_Contains e.votes culprit.0 o.earlier) in
    let by = o.earlier_by in
    omega arith

-- those among a list
in_list : (xs : List ℕ) (r : ℕ) → is_among xs r ≡ true → Contains xs r
in_list xs r t =
    let found = list_any-Has (nat_eq r) xs t in
    subst (λ (x : ℕ). Contains xs x) (sym (eqb-true r found.0 found.2)) (Contains-from_Has xs found.0 found.1)

-- a replica that is a culprit is faulty
is_faulty : (e : Evidence) (faulty careless : List ℕ) (r : ℕ) → Laws → AreHistories e faulty careless → r < n_of e.committee → IsCulprit e r → is_among faulty r ≡ true
is_faulty e faulty careless r laws s below culprit =
    elim (is_among faulty r) as (λ b. is_among faulty r ≡ b → b ≡ true) [
      | true ↦ λ is. refl
      | false ↦ λ is. absurd (no_culprit e r laws s.apart (s.correct r below is) culprit)
    ] refl

few_culprits : (e : Evidence) (faulty careless culprits : List ℕ) → Laws → AreHistories e faulty careless → AreCulprits e culprits
    → weight_among (committee_of e.committee) culprits ≤ weight_among (committee_of e.committee) faulty
few_culprits e faulty careless culprits laws s are =
    weight_more (weight_at e.committee) (is_among culprits) (is_among faulty) (n_of e.committee)
    (λ r below t. is_faulty e faulty careless r laws s below ((are.exact r).0 (in_list culprits r t)))

are_culprits : (e : Evidence) (ks : List ℕ) → AreThoseBelow (IsCulprit e) (top e.votes) ks → AreCulprits e ks
are_culprits e ks are = record {
  rising = are.rising;
  exact = λ r. (λ m. ((are.exact r).0 m).1, λ culprit. (are.exact r).1 (culprit_below e r culprit, culprit));
}

-- ---- two first handovers

-- a quorum has more than two thirds
two_thirds : (w : ℕ) → 2 * w < 3 * (2 * w / 3 + 1)
two_thirds w = omega arith

differ_not : (e : Evidence) (faulty careless : List ℕ) (b d : Header) → Laws → AreHistories e faulty careless
    → IsFirstCommitted (committee_of e.committee) e IsHandover b → IsFirstCommitted (committee_of e.committee) e IsHandover d → b ≢ d → ⊥
differ_not e faulty careless b d laws s m k differ =
    let c = committee_of e.committee in
    let hs = e.headers in
    let g : IsGenesis c.genesis = record { view = refl; parent_view = refl } in
    let t = m.tip in
    let u = k.tip in
    let ct = chain_in c e t m.commit in
    let cu = chain_in c e u k.commit in
    suppose (IsCulprit e) (top e.votes) (λ ks are.
    let culprits = are_culprits e ks are in
    let third = laws.accuse c e t u ks g (two_thirds (total_of e.committee)) s.apart m.commit k.commit
    (record {
      first_linked = (m.commit.chain, ct);
      second_linked = (k.commit.chain, cu);
      differ = λ same. differ (one_first c e IsHandover b d g s.apart m k (inl (sym same)));
      not_below = λ anc. differ (one_first c e IsHandover b d g s.apart m k (ancestor_in hs c.genesis u k.commit.chain t g s.apart cu anc));
      not_above = λ anc. differ (sym (one_first c e IsHandover d b g s.apart k m (ancestor_in hs c.genesis t m.commit.chain u g s.apart ct anc)));
    })
    culprits in
    let few = few_culprits e faulty careless ks laws s culprits in
    let most = s.few_faulty in
    omega arith)

pub agree_with : Laws → ALightProofAgreesWithEvidence
agree_with laws e faulty careless p b s is proves has k =
    let g : Given e p = record { is = is; proves = proves; has = has } in
    let chain = shows e faulty careless p s g in
    let m = first_of_given e p chain.0 g chain.1 in
    let block = handover_block p in
    let there = (k.commit.chain_stands b k.place).known in
    elim (one_or_two (header_id block) (header_id b)) [
      | inl same ↦ s.apart block b (known_at e p 0 g (omega (arith, is.least))) there same
      | inr apart ↦ absurd (differ_not e faulty careless block b laws s m k (λ same. apart (ap (λ (h : Header). header_id h) same)))
    ]

pub agree : Laws → LightProofsAgree
agree laws e faulty careless p q s p_is p_proves p_has q_is q_proves q_has =
    let g : Given e q = record { is = q_is; proves = q_proves; has = q_has } in
    let chain = shows e faulty careless q s g in
    agree_with laws e faulty careless p (handover_block q) s p_is p_proves p_has (first_of_given e q chain.0 g chain.1)
