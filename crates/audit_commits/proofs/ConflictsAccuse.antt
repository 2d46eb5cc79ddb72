-- Two proved commits that conflict accuse whoever certified blocks on both sides.
use Rattle.std.proofs.Common.{◌≡◌, ◌≢◌, ℕ, ◌<◌, ◌≤◌, ◌+◌, ◌*◌, ◌/◌, List, [], ◌∷◌, Bool, true, false, ◌&&◌, nat_eq, refl, sym, ◌∙◌, ap, subst, inl, inr, arith}
use Rattle.std.specs.List.{Contains}
use Rattle.std.specs.Str.{bytes_eq}
use Rattle.std.proofs.lemmas.Bool.{and_parts, eqb-true, cases_lt, cases_order}
use Rattle.std.proofs.lemmas.Slice.Eq.{bytes_eq-Decides}
use Rattle.blocks.specs.Headers.{Header, NamesParent, IsGenesis, header_id}
use Rattle.blocks.specs.Chains.{IsChain, NoCollision}
use Rattle.blocks.specs.Committees.{has_weights, n_of, weight_at}
use Rattle.blocks.proofs.Members.{Contains-first, Contains-later, Contains-from_Has, Has-from_Contains}
use Rattle.certificates.specs.declared.vote.SignedVote.{SignedVote}
use Rattle.audit_evidence.specs.Evidence.{Evidence}
use Rattle.ancestry.proofs.Ids.{apart_in}
use Rattle.blocks.specs.Weights.{Committee, total_weight, weight_of, is_among, committee_of, total_of}
use Rattle.audit_commits.specs.Commits.{is_vote_on, has_vote, IsCertified, IsProvedCommit}
use Rattle.verdict_format.specs.declared.parts.Shown.TheVariants.{DoubleVote, LockViolation}
use Rattle.audit_commits.specs.Culprits.{IsCulprit}
use Rattle.audit_commits.specs.AccountabilityLaws.{AConflictAccusesMoreThanAThird, AThirdIsMoreThanF, AQuorumOfOnceIsTwoFPlusOne, EvidenceNamesEachHeaderOnce, EvidenceOfAConflictAccusesMoreThanAThird}
use Rattle.audit_commits.proofs.Weights.{weight_both, weight_within, weight_listed, list_any-Has, weight_once, sum_once}

-- ---- votes on a block

record VoteOn (e : Evidence) (b : Header) (r : ℕ) : Type 0 where
  vote : SignedVote
  has : Contains e.votes vote
  by : vote.replica ≡ r
  view : b.view ≡ vote.view
  id : header_id b ≡ vote.id

vote_on : (e : Evidence) (b : Header) (r : ℕ) → has_vote e.votes b.view (header_id b) r ≡ true → VoteOn e b r
vote_on e b r t =
    let f = list_any-Has (is_vote_on b.view (header_id b) r) e.votes t in
    let v = f.0 in
    let x = and_parts (nat_eq v.replica r) (nat_eq v.view b.view && bytes_eq v.id (header_id b)) f.2 in
    let y = and_parts (nat_eq v.view b.view) (bytes_eq v.id (header_id b)) x.1 in
    record {
      vote = v;
      has = Contains-from_Has e.votes v f.1;
      by = eqb-true v.replica r x.0;
      view = sym (eqb-true v.view b.view y.0);
      id = sym ((bytes_eq-Decides v.id (header_id b)).0 y.1);
    }

-- ---- what two quorums share

-- what the count of culprits stands on
record Audit (c : Committee) (e : Evidence) (named : List ℕ) : Type 0 where
  genesis : IsGenesis c.genesis
  quorum : 2 * total_weight c < 3 * c.quorum
  apart : NoCollision e.headers
  names_all : (r : ℕ) → IsCulprit e r → Contains named r

abbrev Accused : Committee → List ℕ → Type 0
Accused c named = total_weight c < 3 * weight_of c.weight (is_among named) c.size

-- two quorums share more than a third
shared : (c : Committee) (e : Evidence) (named : List ℕ) (x y : Header) → Audit c e named → IsCertified c e x → IsCertified c e y → ((r : ℕ) → VoteOn e x r → VoteOn e y r → IsCulprit e r) → Accused c named
unfolding IsCertified
shared c e named x y a cx cy h =
    let p : ℕ → Bool = has_vote e.votes x.view (header_id x) in
    let q : ℕ → Bool = has_vote e.votes y.view (header_id y) in
    let k = weight_both c.weight p q c.size in
    let l = weight_within c.weight (λ r. p r && q r) named c.size (λ r i t.
    let m = and_parts (p r) (q r) t in
    Has-from_Contains named r (a.names_all r (h r (vote_on e x r m.0) (vote_on e y r m.1)))) in
    let z = a.quorum in
    omega arith

-- two blocks of one view
clash : (c : Committee) (e : Evidence) (named : List ℕ) (x y : Header) → Audit c e named → Contains e.headers x → Contains e.headers y → IsCertified c e x → IsCertified c e y → x.view ≡ y.view → x ≢ y → Accused c named
clash c e named x y a hx hy cx cy same differ =
    shared c e named x y a cx cy (λ r v w. (
      v.vote,
      w.vote,
      record {
        earlier = v.has;
        later = w.has;
        earlier_by = v.by;
        later_by = w.by;
        broken = (
          DoubleVote,
          record {
            same_view = sym v.view ∙ same ∙ w.view;
            different_ids = λ i. differ (a.apart x y hx hy (v.id ∙ i ∙ sym w.id));
          },
        );
      },
    ))

-- a later block on an older parent
stale : (c : Committee) (e : Evidence) (named : List ℕ) (x p y : Header) → Audit c e named → Contains e.headers x → Contains e.headers p → Contains e.headers y → IsCertified c e x → IsCertified c e y → NamesParent x p → x.view < y.view → y.parent_view < p.parent_view → Accused c named
stale c e named x p y a hx hp hy cx cy n later older =
    shared c e named x y a cx cy (λ r v w. (
      v.vote,
      w.vote,
      record {
        earlier = v.has;
        later = w.has;
        earlier_by = v.by;
        later_by = w.by;
        broken = (
          LockViolation (record { earlier = x; parent = p; later = y }),
          (
            record { earlier = hx; parent = hp; later = hy },
            record {
              e_id = v.id;
              e_view = v.view;
              parent = n;
              w_id = w.id;
              w_view = w.view;
              later = (let i = v.view in let j = w.view in omega arith);
              older_parent = older;
            },
          ),
        );
      },
    ))

-- ---- chains above a view

-- the lowest block above a view, on a parent at or below it
record Lowest (d : Header) (ps : List Header) (v : ℕ) : Type 0 where
  block : Header
  parent : Header
  has_block : Contains (d ∷ ps) block
  has_parent : Contains ps parent
  names : NamesParent block parent
  above : v < block.view
  below : parent.view ≤ v

lowest : (genesis d : Header) (ps : List Header) (v : ℕ) → genesis.view ≤ v → IsChain genesis d ps → v < d.view → Lowest d ps v
lowest genesis d [] v g c above = let k = ap (λ (h : Header). h.view) c in absurd (omega arith)
lowest genesis d (u ∷ us) v g c above =
    elim (cases_lt v u.view) [
      | inl higher ↦
          let l = lowest genesis u us v g c.2 higher in
          record { block = l.block; parent = l.parent; has_block = Contains-later d (u ∷ us) l.block l.has_block; has_parent = Contains-later u us l.parent l.has_parent; names = l.names; above = l.above; below = l.below }
      | inr low ↦ record { block = d; parent = u; has_block = Contains-first d (u ∷ us); has_parent = Contains-first u us; names = c.0; above = above; below = low }
    ]

view_positive : (genesis b : Header) (ps : List Header) → IsChain genesis b ps → b ≢ genesis → 0 < b.view
view_positive genesis b [] c real = absurd (real c)
view_positive genesis b (p ∷ ps) c real = let d = c.1 in omega arith

above_genesis : (genesis h : Header) → IsGenesis genesis → 0 < h.view → h ≢ genesis
above_genesis genesis h g l e = let k = ap (λ (x : Header). x.view) e in let z = g.view in omega arith

-- ---- a commit outside the chain of another that is not lower

one_sided : (c : Committee) (e : Evidence) (named : List ℕ) (b d : Header) → Audit c e named → (m : IsProvedCommit c e b) → (k : IsProvedCommit c e d) → b ≢ d → (Contains k.chain b → ⊥) → b.view ≤ d.view → Accused c named
one_sided c e named b d a m k differ outside order =
    let v0 = view_positive c.genesis b m.chain m.is_chain m.no_genesis in
    let sb = m.chain_stands b (Contains-first b m.chain) in
    let sd = k.chain_stands d (Contains-first d k.chain) in
    elim (cases_lt b.view d.view) [
      | inr low ↦ clash c e named b d a sb.known sd.known (sb.certified m.no_genesis) (sd.certified k.no_genesis) (omega arith) differ
      | inl high ↦
          let g = a.genesis in
          let g_view = g.view in
          let l = lowest c.genesis d k.chain b.view (omega arith) k.is_chain high in
          let w = l.block in
          let u = l.parent in
          let sw = k.chain_stands w l.has_block in
          let su = k.chain_stands u (Contains-later d k.chain u l.has_parent) in
          let l_above = l.above in
          let l_below = l.below in
          let cw = sw.certified (above_genesis c.genesis w g (omega arith)) in
          let w_parent_view = l.names.view in
          elim (cases_lt u.view b.view) [
            | inr up ↦
                clash c e named b u a sb.known su.known (sb.certified m.no_genesis) (su.certified (above_genesis c.genesis u g (omega arith))) (omega arith)
                (λ same. outside (subst (λ (h : Header). Contains k.chain h) (sym same) l.has_parent))
            | inl down ↦
                let s = m.second in
                let t = m.third in
                let s_view = m.second_view in
                let t_view = m.third_view in
                let s_parent_view = m.second_parent.view in
                let t_parent_view = m.third_parent.view in
                let cs = m.second_stands.certified (above_genesis c.genesis s g (omega arith)) in
                let ct = m.third_stands.certified (above_genesis c.genesis t g (omega arith)) in
                elim (cases_order w.view (b.view + 1)) [
                  | inl at_one ↦
                      clash c e named s w a m.second_stands.known sw.known cs cw (omega arith)
                      (λ same. let i = ap (λ (h : Header). h.parent_view) same in omega arith)
                  | inr other ↦
                      elim (cases_order w.view (b.view + 2)) [
                        | inl at_two ↦
                            clash c e named t w a m.third_stands.known sw.known ct cw (omega arith)
                            (λ same. let i = ap (λ (h : Header). h.parent_view) same in omega arith)
                        | inr far ↦
                            stale c e named t s w a m.third_stands.known m.second_stands.known sw.known ct cw m.third_parent (omega arith) (omega arith)
                      ]
                ]
          ]
    ]

-- ---- the laws

pub accused : AConflictAccusesMoreThanAThird
accused c e a b named g q apart ma mb conflict all =
    let audit : Audit c e named = record { genesis = g; quorum = q; apart = apart; names_all = λ r i. (all.exact r).1 i } in
    elim (cases_lt a.view b.view) [
      | inl l ↦ one_sided c e named a b audit ma mb conflict.differ (λ h. conflict.not_below (mb.chain, (mb.is_chain, λ x m. (mb.chain_stands x m).known), h)) (omega arith)
      | inr l ↦ one_sided c e named b a audit mb ma (λ same. conflict.differ (sym same)) (λ h. conflict.not_above (ma.chain, (ma.is_chain, λ x m. (ma.chain_stands x m).known), h)) l
    ]

pub named_once : EvidenceNamesEachHeaderOnce
named_once e is = apart_in e.headers is.headers_rise

-- a quorum has more than two thirds: it is the least such weight
two_thirds : (w : ℕ) → 2 * w < 3 * (2 * w / 3 + 1)
two_thirds w = omega arith

pub accused_in_evidence : EvidenceOfAConflictAccusesMoreThanAThird
accused_in_evidence e a b named is ma mb conflict all =
    accused (committee_of e.committee) e a b named (record { view = refl; parent_view = refl }) (two_thirds (total_of e.committee)) (named_once e is) ma mb conflict all

-- ---- replicas that count once

once : (committee : List ℕ) → has_weights committee ≡ false → (r : ℕ) → weight_at committee r ≡ 1
unfolding weight_at
once committee plain r = rw plain refl

pub third_of_once : AThirdIsMoreThanF
third_of_once committee culprits f plain size third =
    let w = weight_at committee in
    let one = once committee plain in
    let total = weight_once w one (n_of committee) in
    let listed = weight_listed w culprits (n_of committee) in
    let count = sum_once w one culprits in
    omega arith

pub quorum_of_once : AQuorumOfOnceIsTwoFPlusOne
quorum_of_once committee f plain size =
    let one = once committee plain in
    let total = weight_once (weight_at committee) one (n_of committee) in
    (omega arith, one)
