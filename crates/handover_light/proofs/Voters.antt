-- A careful replica that voted for a certified block: what its history shows.
use Rattle.std.proofs.Common.{◌≡◌, ◌≢◌, ◌⊎◌, ℕ, zero, suc, ◌<◌, ◌≤◌, List, [], ◌∷◌, ◌++◌, Bool, true, false, ◌&&◌, cond, nat_eq, refl, sym, ◌∙◌, ap, subst, inl, inr, arith}
use Rattle.std.specs.List.{Contains}
use Rattle.std.specs.Str.{bytes_eq}
use Rattle.std.proofs.lemmas.Bool.{and_parts, eqb-true}
use Rattle.std.proofs.lemmas.List.Elements.{Contains-append_left, Contains-append_right}
use Rattle.std.proofs.lemmas.Slice.Eq.{bytes_eq-Decides}
use Rattle.blocks.specs.Headers.{Header, header_id}
use Rattle.blocks.specs.Chains.{AllIn, IsChain, IsChainIn, NoCollision}
use Rattle.blocks.specs.Committees.{n_of, weight_at}
use Rattle.blocks.specs.Genesis.{genesis_of}
use Rattle.blocks.specs.Replica.{ReplicaState, first_state, Event, Vote, Raise, Pass, Timeout, Restart, IsRunFrom, after, ballot_on, headers_of, votes_of}
use Rattle.blocks.specs.Weights.{committee_of, is_among, weight_of}
use Rattle.blocks.specs.declared.ballot.Ballot.{Ballot}
use Rattle.blocks.proofs.Members.{Has, Has-from_Contains, Contains-from_Has, Contains-first, Contains-later}
use Rattle.certificates.specs.BlockChecks.{IsChecked}
use Rattle.certificates.specs.Certificates.{Certificate}
use Rattle.certificates.specs.Votes.{ballot_of}
use Rattle.certificates.specs.declared.vote.SignedVote.{SignedVote}
use Rattle.audit_evidence.specs.Evidence.{Evidence}
use Rattle.audit_commits.specs.Commits.{IsCertified, Stands, has_vote, is_vote_on}
use Rattle.audit_commits.proofs.Weights.{list_any-Has}
use Rattle.handover_blocks.specs.Handovers.{IsHandover}
use Rattle.handover_light.specs.Histories.{AreHistories, HasVotesOf, IsCareful}
use Rattle.handover_light.proofs.Quorums.{certified_by}

-- ---- the votes of a run

-- a vote of a run, and the block and chain that it was for
pub record VotedFor (run : List Event) (x : Ballot) : Type 0 where
  pub block : Header
  pub chain : List Header
  pub event : Has run (Vote block chain)
  pub on : ballot_on block ≡ x

later : (e : Event) (run : List Event) (x : Ballot) → VotedFor run x → VotedFor (e ∷ run) x
later e run x v = record { block = v.block; chain = v.chain; event = inr v.event; on = v.on }

pub voted_for : (run : List Event) (x : Ballot) → Has (votes_of run) x → VotedFor run x
voted_for [] x m = absurd m
voted_for (Vote b ps ∷ es) x (inl e) = record { block = b; chain = ps; event = inl refl; on = e }
voted_for (Vote b ps ∷ es) x (inr m) = later (Vote b ps) es x (voted_for es x m)
voted_for (Raise b ps ∷ es) x m = later (Raise b ps) es x (voted_for es x m)
voted_for (Pass b ps ∷ es) x m = later (Pass b ps) es x (voted_for es x m)
voted_for (Timeout v ∷ es) x m = later (Timeout v) es x (voted_for es x m)
voted_for (Restart ∷ es) x m = later Restart es x (voted_for es x m)

-- the block and the chain of an event, if it is a vote
abbrev has_chain : Header → Event → Type 0
has_chain genesis (Vote b ps) = IsChain genesis b ps
has_chain genesis (Raise b ps) = Unit {0}
has_chain genesis (Pass b ps) = Unit {0}
has_chain genesis (Timeout v) = Unit {0}
has_chain genesis Restart = Unit {0}

allowed_chain : (genesis : Header) (s : ReplicaState) (e : Event) (run : List Event) → IsRunFrom genesis s (e ∷ run) → has_chain genesis e
allowed_chain genesis s (Vote b ps) run r = r.0.0
allowed_chain genesis s (Raise b ps) run r = tt
allowed_chain genesis s (Pass b ps) run r = tt
allowed_chain genesis s (Timeout v) run r = tt
allowed_chain genesis s Restart run r = tt

chain_of_vote : (genesis : Header) (s : ReplicaState) (run : List Event) (e : Event) → IsRunFrom genesis s run → Has run e → has_chain genesis e
chain_of_vote genesis s [] e r m = absurd m
chain_of_vote genesis s (x ∷ xs) e r m =
    elim m [
      | inl same ↦ subst (has_chain genesis) same (allowed_chain genesis s x xs r)
      | inr n ↦ chain_of_vote genesis (after s x) xs e r.1 n
    ]

-- the headers of an event
abbrev of_event : Event → List Header
of_event (Vote b ps) = b ∷ ps
of_event (Raise b ps) = b ∷ ps
of_event (Pass b ps) = b ∷ ps
of_event (Timeout v) = []
of_event Restart = []

headers_cons : (e : Event) (run : List Event) → headers_of (e ∷ run) ≡ of_event e ++ headers_of run
headers_cons (Vote b ps) run = refl
headers_cons (Raise b ps) run = refl
headers_cons (Pass b ps) run = refl
headers_cons (Timeout v) run = refl
headers_cons Restart run = refl

headers_in_run : (run : List Event) (e : Event) → Has run e → AllIn (headers_of run) (of_event e)
headers_in_run [] e m h n = absurd m
headers_in_run (x ∷ xs) e m h n =
    let P : List Header → Type 0 = λ hs. Contains hs h in
    subst P (sym (headers_cons x xs))
    (elim m [
      | inl same ↦ Contains-append_left (of_event x) (headers_of xs) h (subst (λ (y : Event). Contains (of_event y) h) (sym same) n)
      | inr k ↦ Contains-append_right (of_event x) (headers_of xs) h (headers_in_run xs e k h n)
    ])

-- ---- of two weights the greater has somebody who is not in the other

at_last : (a b : Bool) (w : ℕ) → ((a ≡ true) × (b ≡ false)) ⊎ (cond a w 0 ≤ cond b w 0)
at_last true false w = inl (refl, refl)
at_last true true w = inr (omega arith)
at_last false b w = inr (omega arith)

pub record Outside (p q : ℕ → Bool) (n : ℕ) : Type 0 where
  pub replica : ℕ
  pub below : replica < n
  pub passes : p replica ≡ true
  pub fails : q replica ≡ false

pub outside : (w : ℕ → ℕ) (p q : ℕ → Bool) (n : ℕ) → weight_of w q n < weight_of w p n → Outside p q n
outside w p q zero less = absurd (omega arith)
outside w p q (suc n) less =
    elim (at_last (p n) (q n) (w n)) [
      | inl here ↦ record { replica = n; below = omega arith; passes = here.0; fails = here.1 }
      | inr lower ↦
          let r = outside w p q n (omega arith) in
          record { replica = r.replica; below = (let b = r.below in omega arith); passes = r.passes; fails = r.fails }
    ]

-- ---- the voter

-- what a careful voter for a block shows: its chain, a certificate on its parent, and that it is the first handover if it is one
pub record Shown (e : Evidence) (b : Header) : Type 0 where
  pub chain : List Header
  pub is_chain : IsChainIn e.headers (genesis_of e.committee) b chain
  pub certificate : Certificate
  pub checked : IsChecked e.committee b certificate
  pub votes : HasVotesOf e certificate
  pub first : IsHandover b → (h : Header) → Contains chain h → IsHandover h → ⊥

shown_by : (e : Evidence) (b : Header) (r : ℕ) (v : SignedVote) → NoCollision e.headers → Contains e.headers b → IsCareful e r
    → Contains e.votes v → v.replica ≡ r → v.id ≡ header_id b → Shown e b
shown_by e b r v apart here careful m by of =
    let correct = careful.correct in
    let run = correct.history.run in
    let vote = voted_for run (ballot_of v) (Has-from_Contains (votes_of run) (ballot_of v) (correct.signs_only v m by)) in
    let event = Contains-from_Has run (Vote vote.block vote.chain) vote.event in
    let all : AllIn e.headers (vote.block ∷ vote.chain) = λ h n. correct.at_hand.headers h (headers_in_run run (Vote vote.block vote.chain) vote.event h n) in
    let same : vote.block ≡ b = apart vote.block b (all vote.block (Contains-first vote.block vote.chain)) here (ap (λ (x : Ballot). x.id) vote.on ∙ of) in
    let held = correct.is_history.held vote.block vote.chain event in
    let chain = chain_of_vote (genesis_of e.committee) (first_state (genesis_of e.committee)) run (Vote vote.block vote.chain) correct.is_history.is_run vote.event in
    subst (Shown e) same (record {
      chain = vote.chain;
      is_chain = (chain, all);
      certificate = held.0;
      checked = held.2;
      votes = correct.at_hand.votes held.0 held.1;
      first = careful.one vote.block vote.chain event;
    })

pub shown : (e : Evidence) (faulty careless : List ℕ) (b : Header) → AreHistories e faulty careless → Contains e.headers b
    → IsCertified (committee_of e.committee) e b → Shown e b
unfolding IsCertified
shown e faulty careless b s here certified =
    let few = s.few_careless in
    let test : ℕ → Bool = has_vote e.votes b.view (header_id b) in
    let voter = outside (weight_at e.committee) test (is_among careless) (n_of e.committee) (omega arith) in
    let r = voter.replica in
    let found = list_any-Has (is_vote_on b.view (header_id b) r) e.votes voter.passes in
    let v = found.0 in
    let parts = and_parts (nat_eq v.replica r) (nat_eq v.view b.view && bytes_eq v.id (header_id b)) found.2 in
    let rest = and_parts (nat_eq v.view b.view) (bytes_eq v.id (header_id b)) parts.1 in
    shown_by e b r v s.apart here (s.careful r voter.below voter.fails) (Contains-from_Has e.votes v found.1)
    (eqb-true v.replica r parts.0) ((bytes_eq-Decides v.id (header_id b)).0 rest.1)

-- ---- so each block below a certified one is certified

-- the parent stands
parent_stands : (e : Evidence) (faulty careless : List ℕ) (b p : Header) (ps : List Header) → AreHistories e faulty careless
    → IsChainIn e.headers (genesis_of e.committee) b (p ∷ ps) → IsCertified (committee_of e.committee) e b → Stands (committee_of e.committee) e p
parent_stands e faulty careless b p ps s c certified =
    let here : Contains e.headers b = c.1 b (Contains-first b (p ∷ ps)) in
    let there : Contains e.headers p = c.1 p (Contains-later b (p ∷ ps) p (Contains-first p ps)) in
    let by = shown e faulty careless b s here certified in
    let on = by.checked.parent in
    let view : by.certificate.view ≡ p.view = sym on.view ∙ c.0.0.view in
    let id : by.certificate.id ≡ header_id p = sym on.id ∙ c.0.0.id in
    record {
      known = there;
      certified = λ other. elim by.checked.good [
        | inl quorum ↦ certified_by e p by.certificate (record { view = view; id = id }) quorum by.votes
        | inr genesis ↦ absurd (other (s.apart p (genesis_of e.committee) there s.genesis (sym id ∙ genesis.id)))
      ];
    }

pub all_stand : (e : Evidence) (faulty careless : List ℕ) (b : Header) (ps : List Header) → AreHistories e faulty careless
    → IsChainIn e.headers (genesis_of e.committee) b ps → Stands (committee_of e.committee) e b
    → (h : Header) → Has (b ∷ ps) h → Stands (committee_of e.committee) e h
all_stand e faulty careless b ps s c stands h (inl same) = subst (Stands (committee_of e.committee) e) same stands
all_stand e faulty careless b [] s c stands h (inr m) = absurd m
all_stand e faulty careless b (p ∷ ps) s c stands h (inr m) =
    let other : b ≢ genesis_of e.committee = λ same. (let l = c.0.1 in let k = ap (λ (x : Header). x.view) same in omega arith) in
    let parent = parent_stands e faulty careless b p ps s c (stands.certified other) in
    all_stand e faulty careless p ps s (c.0.2, λ x n. c.1 x (Contains-later b (p ∷ ps) x n)) parent h m
