-- Votes that are put together, and votes that can not be.
use Rattle.std.proofs.Common.{◌≡◌, ◌≢◌, ◌↔◌, ℕ, zero, suc, ◌+◌, ◌-◌, ◌<◌, ◌≤◌, List, [], ◌∷◌, ◌++◌, length, take, get_or, refl, sym, ap, subst, ◌∙◌, arith, add-one, length-take, get_or-take}
use Rattle.std.specs.Prelude.{map}
use Rattle.std.specs.List.{All, AllPairs}
use Rattle.std.specs.List.Sorted.{IsNonDecreasingBy, IsPermutation}
use Rattle.std.proofs.Math.Seq.{take-suc}
use Rattle.std.proofs.lemmas.List.{get_or-map, get_or_default, length-map}
use Rattle.std.proofs.lemmas.List.Quantifiers.{all_pairs_push}
use Rattle.std.proofs.lemmas.List.Elements.{All-map}
use Rattle.std.proofs.lemmas.List.Sorted.{All-permutation, length_permutation}
use Rattle.certificates.specs.declared.certificate.Endorsement.{Endorsement}
use Rattle.certificates.specs.declared.vote.SignedVote.{SignedVote}
use Rattle.certificates.specs.Certificates.{IsBefore, IsEndorsement}
use Rattle.certificates.specs.Assembling.{AgreeOnBlock, AreByDifferent, IsVoteFor, endorsement_of, votes_weight}
use Rattle.certificates.proofs.Permuted.{AllPairs-permutation}

-- ---- one view and id

pub agree_from : (votes : List SignedVote) (view : ℕ) (id : List ℕ) → All (IsVoteFor view id) votes → AgreeOnBlock votes
agree_from votes view id all i j d before below =
    let a = all i d (omega arith) in
    let b = all j d below in
    record { same_view = b.same_view ∙ sym a.same_view; same_id = b.same_id ∙ sym a.same_id }

for_first : (votes : List SignedVote) (d : SignedVote) → AgreeOnBlock votes → All (IsVoteFor (get_or votes 0 d).view (get_or votes 0 d).id) votes
for_first [] d agree k e below = absurd (omega arith)
for_first (v ∷ vs) d agree zero e below = record { same_view = refl; same_id = refl }
for_first (v ∷ vs) d agree (suc k) e below = agree 0 (suc k) e (omega arith) below

-- votes that are not all for the first one's block are for different ones
pub mixed_from : (votes : List SignedVote) (first d : SignedVote) → first ≡ get_or votes 0 d → (All (IsVoteFor first.view first.id) votes → ⊥) → AgreeOnBlock votes → ⊥
mixed_from votes first d is fails agree =
    fails (subst (λ (v : SignedVote). All (IsVoteFor v.view v.id) votes) (sym is) (for_first votes d agree))

-- ---- different replicas

-- two entries are by different replicas
abbrev Differ : Endorsement → Endorsement → Type 0
Differ d e = d.replica ≢ e.replica

flip : (d e : Endorsement) → Differ d e → Differ e d
flip d e differ same = differ (sym same)

abbrev vote_from : Endorsement → SignedVote
vote_from e = record { replica = e.replica; view = 0; id = []; key = e.key; signature = e.signature }

differ_kept : (votes : List SignedVote) → AreByDifferent votes → AllPairs Differ (map endorsement_of votes)
differ_kept votes different i j d before below =
    let n = length-map votes endorsement_of in
    rw (get_or-map endorsement_of votes i (vote_from d) d (omega arith), get_or-map endorsement_of votes j (vote_from d) d (omega arith))
    (different i j (vote_from d) before (omega arith))

-- entries of a sorted list by different replicas rise
rise_if_differ : (es : List Endorsement) → IsNonDecreasingBy (λ e. e.replica) es → AllPairs Differ es → AllPairs IsBefore es
rise_if_differ es sorted differ i j d before below =
    let le = sorted i j d (omega arith) below in
    let ne = differ i j d before below in
    omega arith

-- so do sorted votes by different replicas
pub rising_from : (votes : List SignedVote) (made es : List Endorsement) → made ≡ map endorsement_of votes → IsPermutation made es
    → IsNonDecreasingBy (λ e. e.replica) es → AreByDifferent votes → AllPairs IsBefore es
rising_from votes made es is same sorted different =
    rise_if_differ es sorted (AllPairs-permutation Differ flip made es same (subst (AllPairs Differ) (sym is) (differ_kept votes different)))

-- one vote more by another replica
pub different_push : (votes : List SignedVote) (k : ℕ) (v : SignedVote) → k < length votes → v ≡ get_or votes k v → AreByDifferent (take k votes)
    → All (λ w. w.replica ≢ v.replica) (take k votes) → AreByDifferent (take (k + 1) votes)
different_push votes k v below is so_far others =
    let next : take (k + 1) votes ≡ take k votes ++ v ∷ [] = ap (λ (n : ℕ). take n votes) (add-one k) ∙ take-suc votes k v below ∙ ap (λ (w : SignedVote). take k votes ++ w ∷ []) (sym is) in
    subst AreByDifferent (sym next) (all_pairs_push (λ w u. w.replica ≢ u.replica) (take k votes) v so_far others)

-- the votes before one are by others
pub others_before : (votes : List SignedVote) (k : ℕ) (v : SignedVote) → k < length votes → v ≡ get_or votes k v → AreByDifferent votes
    → All (λ w. w.replica ≢ v.replica) (take k votes)
others_before votes k v below is different j d inside =
    let at : j < k = omega (arith, inside, length-take k votes) in
    let apart = different j k d at below in
    λ same. apart (ap (λ (w : SignedVote). w.replica) (sym (get_or-take k votes j d at)) ∙ same ∙ ap (λ (w : SignedVote). w.replica) (is ∙ get_or_default votes k v d below))

-- ---- as many entries as a certificate may have

few_enough : (n least : ℕ) (es : List Endorsement) → All (λ e. e.replica < n) es → All (λ e. least ≤ e.replica) es → AllPairs IsBefore es → length es ≤ n - least
few_enough n least [] known from rising = omega arith
few_enough n least (e ∷ es) known from rising =
    let here = known 0 e (omega arith) in
    let low = from 0 e (omega arith) in
    let rest : length es ≤ n - (e.replica + 1) =
    few_enough n (e.replica + 1) es (λ k d below. known (suc k) d (omega arith))
    (λ k d below. omega (arith, rising 0 (suc k) d (omega arith) (omega arith))) (λ i j d before below. rising (suc i) (suc j) d (omega arith) (omega arith)) in
    omega arith

-- what the tests let through
pub record Passed (view : ℕ) (es : List Endorsement) : Type 0 where
  pub each : All IsEndorsement es
  pub rising : AllPairs IsBefore es
  pub most : length es ≤ 31
  pub none : (length es ≡ 0) ↔ (view ≡ 0)

pub passed : (n view : ℕ) (votes : List SignedVote) (made es : List Endorsement) → n ≤ 31 → All (λ v. v.replica < n) votes
    → 1 ≤ view → 1 ≤ length votes → made ≡ map endorsement_of votes → IsPermutation made es → All IsEndorsement made
    → AllPairs IsBefore es → Passed view es
passed n view votes made es most known above some is same each rises =
    let known_made : All (λ e. e.replica < n) made =
    subst (All (λ (e : Endorsement). e.replica < n)) (sym is) (All-map (λ (e : Endorsement). e.replica < n) endorsement_of votes known) in
    let few = few_enough n 0 es (All-permutation (λ (e : Endorsement). e.replica < n) made es same known_made) (λ k d below. omega arith) rises in
    let count : length es ≡ length votes = length_permutation made es same ∙ ap (λ (xs : List Endorsement). length xs) is ∙ length-map votes endorsement_of in
    record {
      each = All-permutation IsEndorsement made es same each;
      rising = rises;
      most = omega arith;
      none = (λ e. absurd (omega arith), λ e. absurd (omega arith));
    }

-- ---- what they weigh

-- no votes weigh nothing
pub some_votes : (committee : List ℕ) (votes : List SignedVote) → 1 ≤ votes_weight committee votes → 1 ≤ length votes
some_votes committee [] weighs = absurd (omega arith)
some_votes committee (v ∷ vs) weighs = omega arith
