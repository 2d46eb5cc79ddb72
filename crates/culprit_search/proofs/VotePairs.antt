-- The least pair of votes that break a rule.
use Rattle.std.proofs.Common.{◌≡◌, ℕ, ◌<◌, ◌≤◌, List, length, get_or, take, Option, Some, None, refl, sym, subst}
use Rattle.std.specs.Prelude.{MatchOption}
use Rattle.std.specs.List.{All, AllPairs, Contains}
use Rattle.std.proofs.lemmas.List.{take_all}
use Rattle.std.proofs.lemmas.List.Elements.{All-contains, All-weaker}
use Rattle.certificates.specs.declared.vote.SignedVote.{SignedVote}
use Rattle.audit_evidence.specs.Evidence.{Evidence}
use Rattle.certificates.specs.VoteOrder.{IsLowerVote}
use Rattle.verdict_format.specs.declared.parts.Shown.{Shown}
use Rattle.audit_commits.specs.Culprits.{BreakARule, IsCulprit, IsNamedPair, IsVoteAtMost, Shows}
use Rattle.culprit_search.specs.declared.pairs.Offence.{Offence}
use Rattle.culprit_search.specs.Searches.{AreOwnVotes, IsLeastAgainst, IsLeastPair, NoTwoBreak, NoneBreaksWith}
use Rattle.culprit_search.proofs.VotesInOrder.{first_is_least}

-- what holds of all that were passed holds of all
pub all_passed : {X : Type 0} (P : X → Type 0) (xs : List X) (k : ℕ) → length xs ≤ k → All P (take k xs) → (x : X) → Contains xs x → P x
all_passed P xs k le all x there = All-contains P xs x (subst (λ ys. All P ys) (take_all k xs le) all) there

-- the first vote that breaks a rule with w
pub least_from : (e : Evidence) (own : List SignedVote) (w : SignedVote) (k : ℕ) (v : SignedVote) (s : Shown) → AllPairs IsLowerVote own → k < length own → v ≡ get_or own k v
    → All (λ x. BreakARule e x w → ⊥) (take k own) → Shows e v w s → IsLeastAgainst e own w (record { earlier = v; later = w; shown = s })
least_from e own w k v s rising there is none shown = record {
  later_is = refl;
  among = (k, there, sym is);
  shown = shown;
  least = first_is_least IsLowerVote (λ x. BreakARule e x w) own k v rising there is none;
}

-- the first vote with which another breaks a rule
pub least_pair_from : (e : Evidence) (own : List SignedVote) (w : SignedVote) (k : ℕ) (o : Offence) → AllPairs IsLowerVote own → k < length own → w ≡ get_or own k w
    → All (NoneBreaksWith e own) (take k own) → IsLeastAgainst e own w o → IsLeastPair e own o
least_pair_from e own w k o rising there is none against =
    let later : w ≡ o.later = sym against.later_is in
    let least = first_is_least IsLowerVote (λ y. (x : SignedVote) × Contains own x × BreakARule e x y) own k w rising there is
    (All-weaker (NoneBreaksWith e own) (λ y. ((x : SignedVote) × Contains own x × BreakARule e x y) → ⊥) (λ y free found. free found.0 found.1 found.2) (take k own) none)
    in
    record {
      later_among = subst (λ (y : SignedVote). Contains own y) later (k, there, sym is);
      against = subst (λ (y : SignedVote). IsLeastAgainst e own y o) later against;
      least_later = λ x y in_x in_y breaks. subst (λ (z : SignedVote). IsVoteAtMost z y) later (least y in_y (x, in_x, breaks));
    }

-- the least pair of the replica's votes is the one that is named
named_from : (e : Evidence) (r : ℕ) (own : List SignedVote) (o : Offence) → AreOwnVotes e r own → IsLeastPair e own o → IsNamedPair e r o.earlier o.later × Shows e o.earlier o.later o.shown
named_from e r own o are least =
    let against = least.against in
    let first = (are.exact o.earlier).0 against.among in
    let second = (are.exact o.later).0 least.later_among in (
      record {
        offence = record { earlier = first.0; later = second.0; earlier_by = first.1; later_by = second.1; broken = (o.shown, against.shown) };
        least_later = λ x y other. least.least_later x y ((are.exact x).1 (other.earlier, other.earlier_by)) ((are.exact y).1 (other.later, other.later_by)) other.broken;
        least_earlier = λ x other. against.least x ((are.exact x).1 (other.earlier, other.earlier_by)) other.broken;
      },
      against.shown,
    )

pub named_or_none : (e : Evidence) (r : ℕ) (own : List SignedVote) (o : Option Offence) → AreOwnVotes e r own → MatchOption o (NoTwoBreak e own) (IsLeastPair e own)
    → MatchOption o (IsCulprit e r → ⊥) (λ p. IsNamedPair e r p.earlier p.later × Shows e p.earlier p.later p.shown)
named_or_none e r own None are none = λ (v, w, offence).
    none w ((are.exact w).1 (offence.later, offence.later_by)) v ((are.exact v).1 (offence.earlier, offence.earlier_by)) offence.broken
named_or_none e r own (Some o) are least = named_from e r own o are least
