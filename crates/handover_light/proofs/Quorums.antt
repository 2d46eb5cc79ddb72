-- A quorum's certificate certifies its block where its votes are at hand.
use Rattle.std.proofs.Common.{◌≡◌, ℕ, zero, suc, ◌+◌, ◌<◌, ◌≤◌, List, [], ◌∷◌, Bool, true, false, ◌||◌, length, get_or, refl, sym, subst, inl, inr, arith}
use Rattle.std.specs.List.{All, AllPairs, Contains, list_any, sum_by}
use Rattle.std.proofs.lemmas.Bool.{cases_lt, eq-eqb}
use Rattle.std.proofs.lemmas.List.{get_or-map, length-map}
use Rattle.std.proofs.lemmas.List.Sums.{sum_by-cons}
use Rattle.std.proofs.lemmas.Slice.Eq.{bytes_eq-Decides}
use Rattle.blocks.specs.Committees.{n_of, weight_at}
use Rattle.blocks.specs.Headers.{Header, header_id}
use Rattle.blocks.specs.Weights.{committee_of, weight_of}
use Rattle.blocks.proofs.Members.{Has, Has-from_Contains}
use Rattle.certificates.specs.declared.certificate.Endorsement.{Endorsement}
use Rattle.certificates.specs.declared.vote.SignedVote.{SignedVote}
use Rattle.certificates.specs.Certificates.{Certificate, IsBefore, vote_of}
use Rattle.certificates.specs.GoodCertificates.{IsQuorum}
use Rattle.audit_evidence.specs.Evidence.{Evidence}
use Rattle.audit_evidence.specs.NamedVotes.{certificate_votes}
use Rattle.audit_commits.specs.Commits.{IsCertified, has_vote, is_vote_on}
use Rattle.handover_light.specs.Histories.{HasVotesOf}
use Rattle.handover_light.specs.Proving.{IsOn}

-- ---- one of some votes passes

pub passes : {X : Type 0} (test : X → Bool) (xs : List X) (x : X) → Has xs x → test x ≡ true → list_any test xs ≡ true
passes test [] x m t = absurd m
passes test (y ∷ ys) x m t =
    elim m [
      | inl e ↦ let s : test y ≡ true = subst (λ z. test z ≡ true) (sym e) t in rw s refl
      | inr n ↦ elim (test y) as (λ b. (b || list_any test ys) ≡ true) [ true ↦ refl | false ↦ passes test ys x n t ]
    ]

is_vote : (view : ℕ) (id : List ℕ) (r : ℕ) (v : SignedVote) → v.replica ≡ r → v.view ≡ view → v.id ≡ id → is_vote_on view id r v ≡ true
is_vote view id r v by on of = rw (eq-eqb v.replica r by, eq-eqb v.view view on, (bytes_eq-Decides v.id id).1 of) refl

pub has_that_vote : (votes : List SignedVote) (view : ℕ) (id : List ℕ) (v : SignedVote) → Contains votes v → v.view ≡ view → v.id ≡ id
    → has_vote votes view id v.replica ≡ true
has_that_vote votes view id v m on of = passes (is_vote_on view id v.replica) votes v (Has-from_Contains votes v m) (is_vote view id v.replica v refl on of)

-- ---- entries weigh no more than those who voted

-- more replicas weigh no less
weight_on : (w : ℕ → ℕ) (test : ℕ → Bool) (m n : ℕ) → m ≤ n → weight_of w test m ≤ weight_of w test n
weight_on w test m zero low = let none : m ≡ 0 = omega arith in rw none (omega arith)
weight_on w test m (suc n) low =
    elim (cases_lt m (suc n)) [
      | inl below ↦ let k = weight_on w test m n (omega arith) in omega arith
      | inr past ↦ let e : m ≡ suc n = omega arith in subst (λ (x : ℕ). weight_of w test m ≤ weight_of w test x) e (omega arith)
    ]

weight_step : (w : ℕ → ℕ) (test : ℕ → Bool) (r : ℕ) → test r ≡ true → weight_of w test (suc r) ≡ weight_of w test r + w r
weight_step w test r passes_it = rw passes_it refl

entries_weigh : (w : ℕ → ℕ) (test : ℕ → Bool) (n least : ℕ) (es : List Endorsement) → least ≤ n → All (λ e. e.replica < n) es → All (λ e. least ≤ e.replica) es
    → AllPairs IsBefore es → All (λ e. test e.replica ≡ true) es → weight_of w test least + sum_by (λ e. w e.replica) es ≤ weight_of w test n
entries_weigh w test n least [] low known from rising all = let k = weight_on w test least n low in omega arith
entries_weigh w test n least (e ∷ es) low known from rising all =
    let here = known 0 e (omega arith) in
    let above = from 0 e (omega arith) in
    let step = weight_step w test e.replica (all 0 e (omega arith)) in
    let before = weight_on w test least e.replica above in
    let rest = entries_weigh w test n (suc e.replica) es (omega arith) (λ k d below. known (suc k) d (omega arith))
    (λ k d below. omega (arith, rising 0 (suc k) d (omega arith) (omega arith))) (λ i j d first below. rising (suc i) (suc j) d (omega arith) (omega arith))
    (λ k d below. all (suc k) d (omega arith)) in
    let sum = sum_by-cons (λ (x : Endorsement). w x.replica) e es in
    omega arith

-- the votes of a certificate, one by one
pub contains_vote : (c : Certificate) (k : ℕ) (d : Endorsement) → k < length c.entries → Contains (certificate_votes c) (vote_of c (get_or c.entries k d))
contains_vote c k d below =
    (k, (let n = length-map c.entries (vote_of c) in omega arith), get_or-map (vote_of c) c.entries k d (vote_of c (get_or c.entries k d)) below)

-- ---- certified

pub certified_by : (e : Evidence) (h : Header) (c : Certificate) → IsOn h c → IsQuorum e.committee c → HasVotesOf e c → IsCertified (committee_of e.committee) e h
unfolding IsCertified
certified_by e h c on quorum votes =
    let w = weight_at e.committee in
    let test : ℕ → Bool = has_vote e.votes h.view (header_id h) in
    let known : All (λ d. d.replica < n_of e.committee) c.entries = λ k d below. (quorum.good k d below).known in
    let all : All (λ d. test d.replica ≡ true) c.entries =
    λ k d below. has_that_vote e.votes h.view (header_id h) (vote_of c (get_or c.entries k d)) (votes _ (contains_vote c k d below)) on.view on.id in
    let weigh = entries_weigh w test (n_of e.committee) 0 c.entries (omega arith) known (λ k d below. omega arith) quorum.rising all in
    let least = quorum.least in
    omega arith
