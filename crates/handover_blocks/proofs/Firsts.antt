-- The first block of a kind on a committed chain.
use Rattle.std.proofs.Common.{◌≡◌, ◌≢◌, ℕ, ◌<◌, ◌≤◌, List, [], ◌∷◌, refl, sym, ◌∙◌, ap, subst, inl, inr, arith}
use Rattle.blocks.specs.Headers.{Header, IsGenesis}
use Rattle.blocks.specs.Chains.{IsChain, IsChainIn, NoCollision, IsAncestor}
use Rattle.blocks.specs.Weights.{Committee, committee_of}
use Rattle.blocks.proofs.Chains.{one_chain}
use Rattle.blocks.proofs.Members.{Has, Has-from_Contains, Contains-from_Has, Contains-later}
use Rattle.audit_evidence.specs.Evidence.{Evidence, IsEvidence}
use Rattle.audit_commits.specs.Commits.{IsProvedCommit}
use Rattle.std.specs.Prelude.{IsTrue}
use Rattle.audit_commits.specs.Culprits.{AreCulprits}
use Rattle.audit_commits.specs.AccountabilityLaws.{EvidenceNamesEachHeaderOnce, EvidenceOfAConflictAccusesMoreThanAThird}
use Rattle.handover_blocks.specs.Handovers.{IsFirstCommitted, IsHandover}
use Rattle.handover_blocks.specs.HandoverLaws.{FirstHandoversAreOneOrAccuse, DifferentSuccessorsAccuse, AreMoreThanAThird}

-- ---- one chain

-- what stands behind a block is below it
pub below : (genesis u : Header) (us : List Header) (h : Header) → IsChain genesis u us → Has us h → h.view < u.view
below genesis u [] h c m = absurd m
below genesis u (v ∷ vs) h c m =
    elim m [
      | inl e ↦ let k = ap (λ (x : Header). x.view) e in let l = c.1 in omega arith
      | inr n ↦ let k = below genesis v vs h c.2 n in let l = c.1 in omega arith
    ]

at_most : (genesis u : Header) (us : List Header) (h : Header) → IsChain genesis u us → Has (u ∷ us) h → h.view ≤ u.view
at_most genesis u us h c m =
    elim m [
      | inl e ↦ let k = ap (λ (x : Header). x.view) e in omega arith
      | inr n ↦ let k = below genesis u us h c n in omega arith
    ]

-- a chain has one block of a view
one_of_view : (genesis u : Header) (us : List Header) (x y : Header) → IsChain genesis u us → Has (u ∷ us) x → Has (u ∷ us) y → x.view ≡ y.view → x ≡ y
one_of_view genesis u [] x y c (inl e) (inl f) same = sym e ∙ f
one_of_view genesis u [] x y c (inl e) (inr f) same = absurd f
one_of_view genesis u [] x y c (inr e) f same = absurd e
one_of_view genesis u (v ∷ vs) x y c (inl e) (inl f) same = sym e ∙ f
one_of_view genesis u (v ∷ vs) x y c (inl e) (inr n) same =
    let k = ap (λ (h : Header). h.view) e in let l = below genesis u (v ∷ vs) y c n in absurd (omega arith)
one_of_view genesis u (v ∷ vs) x y c (inr m) (inl f) same =
    let k = ap (λ (h : Header). h.view) f in let l = below genesis u (v ∷ vs) x c m in absurd (omega arith)
one_of_view genesis u (v ∷ vs) x y c (inr m) (inr n) same = one_of_view genesis v vs x y c.2 m n same

-- ---- a block of a chain, and its own chain

pub record AreChains (hs : List Header) (genesis u : Header) (us : List Header) (t : Header) (ts : List Header) : Type 0 where
  pub genesis_is : IsGenesis genesis
  pub apart : NoCollision hs
  pub longer : IsChainIn hs genesis u us
  pub shorter : IsChainIn hs genesis t ts

same_rest : (hs : List Header) (genesis u : Header) (us : List Header) (t : Header) (ts : List Header) → AreChains hs genesis u us t ts → u ≡ t → us ≡ ts
same_rest hs genesis u us t ts a e =
    one_chain hs genesis t us ts a.genesis_is a.apart (subst (λ (x : Header). IsChainIn hs genesis x us) e a.longer) a.shorter

behind : (hs : List Header) (genesis u v : Header) (vs : List Header) (t : Header) (ts : List Header) → AreChains hs genesis u (v ∷ vs) t ts → AreChains hs genesis v vs t ts
behind hs genesis u v vs t ts a = record {
  genesis_is = a.genesis_is;
  apart = a.apart;
  longer = (a.longer.0.2, λ h m. a.longer.1 h (Contains-later u (v ∷ vs) h m));
  shorter = a.shorter;
}

-- what stands in the chain of a block of the chain stands in the chain
pub within : (hs : List Header) (genesis u : Header) (us : List Header) (t : Header) (ts : List Header) (h : Header) → AreChains hs genesis u us t ts → Has (u ∷ us) t → Has (t ∷ ts) h → Has (u ∷ us) h
within hs genesis u us t ts h a (inl e) m =
    let s = same_rest hs genesis u us t ts a e in
    subst (λ (x : Header). Has (x ∷ us) h) (sym e) (subst (λ (xs : List Header). Has (t ∷ xs) h) (sym s) m)
within hs genesis u [] t ts h a (inr n) m = absurd n
within hs genesis u (v ∷ vs) t ts h a (inr n) m = inr (within hs genesis v vs t ts h (behind hs genesis u v vs t ts a) n m)

-- what stands in the chain and is not above a block of it stands in the chain of that block
reached : (hs : List Header) (genesis u : Header) (us : List Header) (t : Header) (ts : List Header) (d : Header) → AreChains hs genesis u us t ts → Has (u ∷ us) t → Has (u ∷ us) d → d.view ≤ t.view → Has (t ∷ ts) d
reached hs genesis u us t ts d a (inl e) m low =
    let s = same_rest hs genesis u us t ts a e in
    subst (λ (xs : List Header). Has (t ∷ xs) d) s (subst (λ (x : Header). Has (x ∷ us) d) e m)
reached hs genesis u [] t ts d a (inr n) m low = absurd n
reached hs genesis u (v ∷ vs) t ts d a (inr n) (inl f) low =
    let k = ap (λ (x : Header). x.view) f in
    let l = below genesis u (v ∷ vs) t a.longer.0 n in absurd (omega arith)
reached hs genesis u (v ∷ vs) t ts d a (inr n) (inr m) low = reached hs genesis v vs t ts d (behind hs genesis u v vs t ts a) n m low

-- ---- two commits, one in the chain of the other or the other itself

pub chain_in : (c : Committee) (e : Evidence) (t : Header) (m : IsProvedCommit c e t) → IsChainIn e.headers c.genesis t m.chain
chain_in c e t m = (m.is_chain, λ h i. (m.chain_stands h i).known)

pub one_first : (c : Committee) (e : Evidence) (Is : Header → Type 0) (b d : Header) → IsGenesis c.genesis → NoCollision e.headers
    → (m : IsFirstCommitted c e Is b) → (k : IsFirstCommitted c e Is d) → Has (k.tip ∷ k.commit.chain) m.tip → b ≡ d
one_first c e Is b d g apart m k inside =
    let hs = e.headers in
    let t = m.tip in
    let ts = m.commit.chain in
    let u = k.tip in
    let us = k.commit.chain in
    let a : AreChains hs c.genesis u us t ts = record { genesis_is = g; apart = apart; longer = chain_in c e u k.commit; shorter = chain_in c e t m.commit } in
    let b_short = Has-from_Contains (t ∷ ts) b m.place in
    let d_long = Has-from_Contains (u ∷ us) d k.place in
    let b_long = within hs c.genesis u us t ts b a inside b_short in
    let low = k.first b (Contains-from_Has (u ∷ us) b b_long) m.kind in
    let top = at_most c.genesis t ts b m.commit.is_chain b_short in
    let d_short = reached hs c.genesis u us t ts d a inside d_long (omega arith) in
    let high = m.first d (Contains-from_Has (t ∷ ts) d d_short) k.kind in
    one_of_view c.genesis u us b d k.commit.is_chain b_long d_long (omega arith)

-- ---- a block in a chain behind its first

pub ancestor_in : (hs : List Header) (genesis u : Header) (us : List Header) (t : Header) → IsGenesis genesis → NoCollision hs → IsChainIn hs genesis u us → IsAncestor hs genesis t u → Has (u ∷ us) t
ancestor_in hs genesis u us t g apart c anc =
    let s = one_chain hs genesis u anc.0 us g apart anc.1 c in
    inr (subst (λ (xs : List Header). Has xs t) s (Has-from_Contains anc.0 t anc.2))

-- what commit_search says of evidence
pub record Laws : Type 0 where
  pub accuse : EvidenceOfAConflictAccusesMoreThanAThird
  pub named_once : EvidenceNamesEachHeaderOnce

first_of_any : Laws → (e : Evidence) (Is : Header → Type 0) (b d : Header) (named : List ℕ) → IsEvidence e
    → IsFirstCommitted (committee_of e.committee) e Is b → IsFirstCommitted (committee_of e.committee) e Is d
    → b ≢ d → AreCulprits e named → AreMoreThanAThird e named
first_of_any laws e Is b d named is m k differ all =
    let c = committee_of e.committee in
    let hs = e.headers in
    let g : IsGenesis c.genesis = record { view = refl; parent_view = refl } in
    let apart = laws.named_once e is in
    let t = m.tip in
    let u = k.tip in
    let ct = chain_in c e t m.commit in
    let cu = chain_in c e u k.commit in
    laws.accuse e t u named is m.commit k.commit
    (record {
      first_linked = (m.commit.chain, ct);
      second_linked = (k.commit.chain, cu);
      differ = λ same. differ (one_first c e Is b d g apart m k (inl (sym same)));
      not_below = λ anc. differ (one_first c e Is b d g apart m k (ancestor_in hs c.genesis u k.commit.chain t g apart cu anc));
      not_above = λ anc. differ (sym (one_first c e Is d b g apart k m (ancestor_in hs c.genesis t m.commit.chain u g apart ct anc)));
    })
    all

pub first_or_accused : Laws → FirstHandoversAreOneOrAccuse
first_or_accused laws e is b d named evidence m k differ all = first_of_any laws e (λ h. IsTrue (is h)) b d named evidence m k differ all

pub successors_accuse : Laws → DifferentSuccessorsAccuse
successors_accuse laws e new other named is s t differ all =
    first_of_any laws e IsHandover s.block t.block named is s.first t.first
    (λ same. differ (sym s.names ∙ ap (λ (h : Header). h.payload) same ∙ t.names)) all
