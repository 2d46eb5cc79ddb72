-- Commits among certified headers are those that evidence proves.
use Rattle.std.proofs.Common.{◌≡◌, ◌≢◌, ◌↔◌, Bool, true, false, inl, inr, ℕ, ◌+◌, ◌<◌, List, ◌∷◌, refl, sym, ◌∙◌, ap, subst, get_or, arith}
use Rattle.std.specs.Prelude.{IsTrue, nat_eq}
use Rattle.std.specs.List.{All, AllPairs, Contains}
use Rattle.std.proofs.lemmas.List.Elements.{Contains-get_or}
use lib.Pointwise.{pointwise}
use Rattle.std.proofs.lemmas.Bool.{false≢true}
use Rattle.std.proofs.lemmas.Slice.Eq.{bytes_eq-Decides}
use Rattle.blocks.specs.Chains.{NoCollision}
use Rattle.blocks.specs.Genesis.{genesis_of}
use Rattle.blocks.specs.Headers.{Header, HasLowerId, IsGenesis, header_id}
use Rattle.blocks.proofs.Members.{Contains-first, Contains-later}
use Rattle.ancestry.specs.Known.{Known, IsAloneAmong, IsKnown, all_of}
use Rattle.ancestry.proofs.Ids.{apart_in}
use Rattle.ancestry.proofs.Walks.{head_or_later, linked_is}
use Rattle.audit_evidence.specs.Evidence.{Evidence, IsEvidence}
use Rattle.blocks.specs.Weights.{committee_of}
use Rattle.audit_commits.specs.Commits.{AreProvedCommits, IsCertified, IsLowerBlock, IsProvedCommit, Stands}
use Rattle.audit_commits.specs.Chosen.{AreCertifiedHeaders, AreThose}
use Rattle.audit_commits.specs.Successors.{HasNext, HasTwoNext, IsCommitAmong}

pub evidence_apart : (e : Evidence) → IsEvidence e → NoCollision e.headers
evidence_apart e is = apart_in e.headers is.headers_rise

-- ---- headers of evidence, with genesis

abbrev pub with_genesis : Evidence → List Header → Known
with_genesis e hs = record { genesis = genesis_of e.committee; headers = hs }

abbrev pub AreIn : Evidence → List Header → Type 0
AreIn e hs = (h : Header) → Contains hs h → Contains e.headers h

pub genesis_is : (e : Evidence) → IsGenesis (genesis_of e.committee)
genesis_is e = record { view = refl; parent_view = refl }

pub genesis_alone : (e : Evidence) (hs : List Header) → IsEvidence e → AreIn e hs → IsAloneAmong (genesis_of e.committee) hs
genesis_alone e hs is among h there same = evidence_apart e is h (genesis_of e.committee) (among h there) is.genesis same

pub known_of : (e : Evidence) (hs : List Header) → IsEvidence e → AllPairs HasLowerId hs → AreIn e hs → IsKnown (with_genesis e hs)
known_of e hs is rising among = record { rising = rising; alone = genesis_alone e hs is among }

pub genesis_alone_in : (e : Evidence) (hs ds : List Header) (g : Header) → IsEvidence e → AreIn e hs → ds ≡ hs → g ≡ genesis_of e.committee → IsAloneAmong g ds
genesis_alone_in e hs ds g is among same_hs same_g =
    subst (λ (x : Header). IsAloneAmong x ds) (sym same_g) (subst (IsAloneAmong (genesis_of e.committee)) (sym same_hs) (genesis_alone e hs is among))

-- ---- certified headers

abbrev pub AreCertified : Evidence → List Header → Type 0
AreCertified e hs = AreThose (IsCertified (committee_of e.committee) e) e.headers hs

pub certified_in : (e : Evidence) (hs : List Header) → AreCertified e hs → AreIn e hs
certified_in e hs a h there = ((a.exact h).0 there).0

pub certified_known : (e : Evidence) (hs : List Header) → IsEvidence e → AreCertified e hs → IsKnown (with_genesis e hs)
certified_known e hs is a = known_of e hs is a.rising (certified_in e hs a)

stands_later : (e : Evidence) (hs : List Header) (h : Header) → AreCertified e hs → Contains hs h → Stands (committee_of e.committee) e h
stands_later e hs h a there = let b = (a.exact h).0 there in record { known = b.0; certified = λ _. b.1 }

pub stands_in : (e : Evidence) (hs : List Header) (h : Header) → IsEvidence e → AreCertified e hs → Contains (all_of (with_genesis e hs)) h → Stands (committee_of e.committee) e h
stands_in e hs h is a there =
    elim (head_or_later (genesis_of e.committee) hs h there) [
      | inl here ↦ record { known = subst (Contains e.headers) here is.genesis; certified = λ other. absurd (other (sym here)) }
      | inr later ↦ stands_later e hs h a later
    ]

later_stands : (e : Evidence) (hs : List Header) (h : Header) → AreCertified e hs → h ≢ genesis_of e.committee → Stands (committee_of e.committee) e h → Contains hs h
later_stands e hs h a other s = (a.exact h).1 (s.known, s.certified other)

pub known_stands : (e : Evidence) (hs : List Header) (h : Header) → IsEvidence e → AreCertified e hs → Stands (committee_of e.committee) e h → Contains (all_of (with_genesis e hs)) h
known_stands e hs h is a s = by_test (pointwise nat_eq (header_id h) (header_id (genesis_of e.committee))) (bytes_eq-Decides (header_id h) (header_id (genesis_of e.committee)))
  where
    by_test : (r : Bool) → IsTrue r ↔ (header_id h ≡ header_id (genesis_of e.committee)) → Contains (genesis_of e.committee ∷ hs) h
    by_test true test = subst (Contains (genesis_of e.committee ∷ hs)) (sym (evidence_apart e is h (genesis_of e.committee) s.known is.genesis (test.0 refl))) (Contains-first (genesis_of e.committee) hs)
    by_test false test = Contains-later (genesis_of e.committee) hs h (later_stands e hs h a (λ same. false≢true (test.1 (ap (λ (x : Header). header_id x) same))) s)

-- ---- commits

above_genesis : (e : Evidence) (h b : Header) (n : ℕ) → h.view ≡ b.view + n → 0 < n → h ≢ genesis_of e.committee
above_genesis e h b n v some same = let k = ap (λ (x : Header). x.view) same in omega arith

pub among_is_proved : (e : Evidence) (hs : List Header) (b : Header) → IsEvidence e → AreCertified e hs → Contains hs b → IsCommitAmong (with_genesis e hs) b → IsProvedCommit (committee_of e.committee) e b
unfolding HasTwoNext HasNext
among_is_proved e hs b is a there among =
    let known = with_genesis e hs in
    let linked = linked_is known (header_id b) b (certified_known e hs is a) (Contains-later known.genesis hs b there) refl among.linked in
    let two = among.next in
    let one = two.4 in
    let last = one.1 in
    let v = one.0.1 in
    let w = last.4.1 in
    record {
      no_genesis = among.no_genesis;
      chain = linked.0;
      is_chain = linked.1.0;
      chain_stands = λ h m. stands_in e hs h is a (linked.1.1 h m);
      second = two.1;
      second_parent = one.0.0;
      second_view = v;
      second_stands = stands_later e hs two.1 a (two.0, two.2, two.3);
      third = last.1;
      third_parent = last.4.0;
      third_view = omega arith;
      third_stands = stands_later e hs last.1 a (last.0, last.2, last.3);
    }

pub proved_is_there : (e : Evidence) (hs : List Header) (b : Header) → AreCertified e hs → IsProvedCommit (committee_of e.committee) e b → Contains hs b
proved_is_there e hs b a p = later_stands e hs b a p.no_genesis (p.chain_stands b (Contains-first b p.chain))

pub proved_is_among : (e : Evidence) (hs : List Header) (b : Header) → IsEvidence e → AreCertified e hs → IsProvedCommit (committee_of e.committee) e b → IsCommitAmong (with_genesis e hs) b
unfolding HasTwoNext HasNext
proved_is_among e hs b is a p =
    let v = p.second_view in
    let w = p.third_view in
    let up : p.third.view ≡ p.second.view + 1 = omega arith in
    let s = later_stands e hs p.second a (above_genesis e p.second b 1 v (omega arith)) p.second_stands in
    let t = later_stands e hs p.third a (above_genesis e p.third b 2 w (omega arith)) p.third_stands in
    record {
      no_genesis = p.no_genesis;
      linked = (b, refl, (p.chain, (p.is_chain, λ h m. known_stands e hs h is a (p.chain_stands h m))));
      next = (s.0, p.second, s.1, s.2, ((p.second_parent, v), (t.0, p.third, t.1, t.2, (p.third_parent, up))));
    }

all_proved : (e : Evidence) (hs chosen commits : List Header) → IsEvidence e → AreCertified e hs → AreThose (IsCommitAmong (with_genesis e hs)) hs chosen → AllPairs IsLowerBlock commits
    → ((b : Header) → Contains commits b ↔ Contains chosen b) → AreProvedCommits (committee_of e.committee) e commits
all_proved e hs chosen commits is a these rising same = record {
  rising = rising;
  exact = λ b. (
    λ c. (let both = (these.exact b).0 ((same b).0 c) in among_is_proved e hs b is a both.0 both.1),
    λ p. (same b).1 ((these.exact b).1 (proved_is_there e hs b a p, proved_is_among e hs b is a p)),
  );
}

with_genesis_of : List Header → Header → Known
with_genesis_of hs g = record { genesis = g; headers = hs }

pub index_is : (e : Evidence) (known : Known) → AreCertifiedHeaders e known → known ≡ with_genesis e known.headers
unfolding with_genesis_of
index_is e known are = ap (with_genesis_of known.headers) are.genesis

pub proved_from : (e : Evidence) (known : Known) (chosen commits : List Header) → IsEvidence e → AreCertifiedHeaders e known → AreThose (IsCommitAmong known) known.headers chosen
    → AllPairs IsLowerBlock commits → ((b : Header) → Contains commits b ↔ Contains chosen b) → AreProvedCommits (committee_of e.committee) e commits
proved_from e known chosen commits is are these rising same =
    all_proved e known.headers chosen commits is are.certified
    (subst (λ (k : Known). AreThose (IsCommitAmong k) known.headers chosen) (index_is e known are) these)
    rising same

-- commits among known headers are known
pub chosen_known : (known : Known) (chosen commits : List Header) → AreThose (IsCommitAmong known) known.headers chosen → ((b : Header) → Contains commits b ↔ Contains chosen b)
    → All (Contains (all_of known)) commits
chosen_known known chosen commits these same k d l =
    let b = get_or commits k d in
    Contains-later known.genesis known.headers b (((these.exact b).0 ((same b).0 (Contains-get_or commits k d l))).0)

-- what was built is the index
pub index_of : (e : Evidence) (hs ds : List Header) (g : Header) (known : Known) → AreCertified e hs → ds ≡ hs → g ≡ genesis_of e.committee → known ≡ record { genesis = g; headers = ds } → AreCertifiedHeaders e known
index_of e hs ds g known a same_hs same_g is = record {
  genesis = ap (λ (k : Known). k.genesis) is ∙ same_g;
  certified = subst (AreCertified e) (sym (ap (λ (k : Known). k.headers) is ∙ same_hs)) a;
}
