-- Verdicts on culprits in turn.
use Rattle.std.proofs.Common.{◌≡◌, ◌⊎◌, ℕ, ◌+◌, ◌<◌, ◌≤◌, List, [], ◌∷◌, ◌++◌, length, get_or, map, inl, inr, sym, ◌∙◌, ap, subst, arith}
use Rattle.std.specs.List.{All, AllPairs, Contains}
use Rattle.std.proofs.lemmas.Bool.{cases_lt}
use Rattle.std.proofs.lemmas.List.{get_or-map, length-map}
use Rattle.std.proofs.lemmas.List.Elements.{All-push, All-nil, Contains-append_left, Contains-get_or, Contains-push, Contains-push_cases}
use Rattle.std.proofs.lemmas.List.Quantifiers.{all_pairs_push}
use Rattle.blocks.specs.Committees.{n_of}
use Rattle.ancestry.proofs.Walks.{not_in_none}
use Rattle.audit_evidence.specs.Evidence.{Evidence, IsEvidence}
use Rattle.verdict_format.specs.Proofs.{IsProof}
use Rattle.verdict_format.specs.Verdicts.{replica_in}
use Rattle.audit_commits.specs.Culprits.{AreCulprits, IsCulprit}
use Rattle.culprit_search.specs.Verdicts.{Accuses, AreVerdicts, IsOnLowerReplica}
use Rattle.culprit_search.proofs.Written.{accused}

-- one verdict on each culprit below n and no other, by rising replica, each of them a proof
pub record AreVerdictsBelow (e : Evidence) (n : ℕ) (verdicts : List (List ℕ)) : Type 0 where
  pub rising : AllPairs IsOnLowerReplica verdicts
  pub below : (bytes : List ℕ) → Contains verdicts bytes → replica_in bytes < n
  pub each : (bytes : List ℕ) → Contains verdicts bytes → Accuses e (replica_in bytes) bytes
  pub all : (r : ℕ) → r < n → IsCulprit e r → (bytes : List ℕ) × Contains verdicts bytes × Accuses e r bytes
  pub accepted : All (IsProof e.committee) verdicts

pub none_yet : (e : Evidence) → AreVerdictsBelow e 0 []
none_yet e = record {
  rising = λ i j d l m. absurd (omega arith);
  below = λ b c. absurd (not_in_none b c);
  each = λ b c. absurd (not_in_none b c);
  all = λ r l is. absurd (omega arith);
  accepted = All-nil (IsProof e.committee);
}

below_or : (r n : ℕ) → r < n + 1 → (r < n) ⊎ (r ≡ n)
below_or r n l = elim (cases_lt r n) [ inl k ↦ inl k | inr k ↦ inr (omega arith) ]

-- who is no culprit is passed over
pub one_less : (e : Evidence) (n : ℕ) (vs : List (List ℕ)) → AreVerdictsBelow e n vs → (IsCulprit e n → ⊥) → AreVerdictsBelow e (n + 1) vs
one_less e n vs are free = record {
  rising = are.rising;
  below = λ b c. (let l = are.below b c in omega arith);
  each = are.each;
  all = λ r l is. elim (below_or r n l) [ inl less ↦ are.all r less is | inr same ↦ absurd (free (subst (λ (q : ℕ). IsCulprit e q) same is)) ];
  accepted = are.accepted;
}

says : (e : Evidence) (n : ℕ) (b : List ℕ) → Accuses e n b → replica_in b ≡ n
says e n b accuses = accused b _ accuses.spells

-- on a culprit there is one more
pub one_more : (e : Evidence) (n : ℕ) (vs : List (List ℕ)) (b : List ℕ) → AreVerdictsBelow e n vs → Accuses e n b → IsProof e.committee b → AreVerdictsBelow e (n + 1) (vs ++ b ∷ [])
one_more e n vs b are accuses proof =
    let on : replica_in b ≡ n = says e n b accuses in
    record {
      rising =
          all_pairs_push IsOnLowerReplica vs b are.rising
          (λ k d l. (let low = are.below (get_or vs k d) (Contains-get_or vs k d l) in subst (λ (q : ℕ). replica_in (get_or vs k d) < q) (sym on) low));
      below = λ x c. elim (Contains-push_cases vs b x c) [
        | inl there ↦ (let low = are.below x there in omega arith)
        | inr same ↦ (let is = ap replica_in same in omega arith)
      ];
      each = λ x c. elim (Contains-push_cases vs b x c) [
        | inl there ↦ are.each x there
        | inr same ↦ subst (λ (y : List ℕ). Accuses e (replica_in y) y) same (subst (λ (q : ℕ). Accuses e q b) (sym on) accuses)
      ];
      all = λ r l is. elim (below_or r n l) [
        | inl less ↦ (let old = are.all r less is in (old.0, Contains-append_left vs (b ∷ []) old.0 old.1, old.2))
        | inr same ↦ (b, Contains-push vs b, subst (λ (q : ℕ). Accuses e q b) (sym same) accuses)
      ];
      accepted = All-push (IsProof e.committee) vs b are.accepted proof;
    }

-- ---- all replicas

-- a culprit is one of the committee
known : (e : Evidence) (r : ℕ) → IsEvidence e → IsCulprit e r → r < n_of e.committee
known e r is (v, w, offence) = subst (λ (q : ℕ). q < n_of e.committee) offence.earlier_by (is.good v offence.earlier).known

pub all_verdicts : (e : Evidence) (n : ℕ) (vs : List (List ℕ)) → IsEvidence e → n_of e.committee ≤ n → AreVerdictsBelow e n vs → AreVerdicts e vs
all_verdicts e n vs is le are = record {
  rising = are.rising;
  each = are.each;
  all = λ r culprit. are.all r (let l = known e r is culprit in omega arith) culprit;
}

culprit : (e : Evidence) (r : ℕ) (b : List ℕ) → Accuses e r b → IsCulprit e r
culprit e r b accuses = (accuses.earlier, accuses.later, accuses.named.offence)

-- ---- the replicas that they name

in_map : {X Y : Type 0} (f : X → Y) (xs : List X) (x : X) → Contains xs x → Contains (map f xs) (f x)
in_map f xs x (k, l, is) = (k, omega (arith, length-map xs f), get_or-map f xs k x (f x) l ∙ ap f is)

from_map : (vs : List (List ℕ)) (r : ℕ) → Contains (map replica_in vs) r → (b : List ℕ) × Contains vs b × (replica_in b ≡ r)
from_map vs r (k, l, is) =
    let there : k < length vs = omega (arith, length-map vs replica_in) in
    (get_or vs k [], Contains-get_or vs k [] there, sym (get_or-map replica_in vs k [] r there) ∙ is)

map_rises : (vs : List (List ℕ)) → AllPairs IsOnLowerReplica vs → AllPairs (λ q r. q < r) (map replica_in vs)
map_rises vs rising i j d less there =
    let in_j : j < length vs = omega (arith, length-map vs replica_in) in
    let first = get_or-map replica_in vs i [] d (omega arith) in
    let second = get_or-map replica_in vs j [] d in_j in
    let low = rising i j [] less in_j in
    omega arith

pub all_culprits : (e : Evidence) (vs : List (List ℕ)) → AreVerdicts e vs → AreCulprits e (map replica_in vs)
all_culprits e vs are = record {
  rising = map_rises vs are.rising;
  exact = λ r. (
    λ c. (let at = from_map vs r c in subst (λ (q : ℕ). IsCulprit e q) at.2 (culprit e (replica_in at.0) at.0 (are.each at.0 at.1))),
    λ is. (let has = are.all r is in subst (λ (q : ℕ). Contains (map replica_in vs) q) (says e r has.0 has.2) (in_map replica_in vs has.0 has.1)),
  );
}
