-- What a verdict that was written accuses, and that it is a proof.
use Rattle.std.proofs.Common.{◌≡◌, ℕ, Bool, true, false, List, Option, Some, None, sym, ap, subst}
use Rattle.std.specs.Prelude.{◌==◌, IsSomeAnd}
use Rattle.std.specs.Bool.{MatchBool}
use Rattle.blocks.specs.declared.ballot.Ballot.{Ballot}
use Rattle.blocks.specs.Rules.{IsDoubleVote}
use Rattle.certificates.specs.Votes.{IsGoodVote}
use Rattle.certificates.specs.declared.vote.SignedVote.{SignedVote}
use Rattle.audit_evidence.specs.Evidence.{Evidence, IsEvidence}
use Rattle.verdict_format.specs.declared.parts.BoundVote.{BoundVote}
use Rattle.verdict_format.specs.declared.parts.VerdictParts.{VerdictParts}
use Rattle.verdict_format.specs.Proofs.{IsLockViolationBy, IsProof}
use Rattle.verdict_format.specs.declared.parts.Shown.{Shown}
use Rattle.verdict_format.specs.declared.parts.Shown.TheVariants.{DoubleVote, LockViolation}
use Rattle.verdict_format.specs.VerdictText.{IsVerdictOf, shown_of, verdict_kind, parts_in}
use Rattle.verdict_format.specs.Verdicts.{VotedHeaders, earlier_in, headers_in, later_in, verdict_kind_in, replica_in}
use Rattle.verdict_format.proofs.VerdictLaws.{kind_again, verdict_again}
use Rattle.audit_commits.specs.Culprits.{IsNamedPair, Shows}
use Rattle.culprit_search.specs.Verdicts.{Accuses, parts_of}

abbrev vote_in : BoundVote → Ballot
vote_in v = record { view = v.view; id = v.id }

-- what is shown is a lock violation
abbrev IsLockViolationShown : Ballot → Ballot → Shown → Type 0
IsLockViolationShown e w DoubleVote = ⊥
IsLockViolationShown e w (LockViolation h) = IsLockViolationBy e w h

-- .. by headers
by_headers : (e w : Ballot) (o : Option VotedHeaders) → IsLockViolationShown e w (shown_of o) → IsSomeAnd o (IsLockViolationBy e w)
by_headers e w None is = absurd is
by_headers e w (Some h) is = is

second_by : (b : Bool) (P Q R : Type 0) → (Q → R) → MatchBool b P Q → MatchBool b P R
second_by true P Q R f p = p
second_by false P Q R f q = f q

-- what votes and headers say of the rule that they break
abbrev BreaksOf : ℕ → VerdictParts → Type 0
BreaksOf kind p =
    MatchBool (kind == 1)
    (IsDoubleVote (vote_in p.earlier) (vote_in p.later))
    (IsLockViolationShown (vote_in p.earlier) (vote_in p.later) p.shown)

breaks_it : (e : Evidence) (r : ℕ) (v w : SignedVote) (s : Shown) → Shows e v w s → BreaksOf (verdict_kind s) (parts_of e r v w s)
breaks_it e r v w DoubleVote shown = shown
breaks_it e r v w (LockViolation h) shown = shown.1

-- a vote of the parts, with its replica and its signature
abbrev signed_in : VerdictParts → BoundVote → SignedVote
signed_in p v = record { replica = p.replica; view = v.view; id = v.id; key = v.key; signature = v.signature }

-- .. is good
abbrev IsGoodOf : List ℕ → VerdictParts → Type 0
IsGoodOf committee p =
    IsGoodVote committee (signed_in p p.earlier) × IsGoodVote committee (signed_in p p.later)

pub accused : (bytes : List ℕ) (p : VerdictParts) → IsVerdictOf bytes p → replica_in bytes ≡ p.replica
accused bytes p is = ap (λ (x : VerdictParts). x.replica) (verdict_again bytes p is).1

pub earlier_view : (bytes : List ℕ) (p : VerdictParts) → IsVerdictOf bytes p → (earlier_in bytes).view ≡ p.earlier.view
earlier_view bytes p is = ap (λ (x : VerdictParts). x.earlier.view) (verdict_again bytes p is).1

pub later_view : (bytes : List ℕ) (p : VerdictParts) → IsVerdictOf bytes p → (later_in bytes).view ≡ p.later.view
later_view bytes p is = ap (λ (x : VerdictParts). x.later.view) (verdict_again bytes p is).1

-- the verdict on a named pair is a proof
pub proof_of : (e : Evidence) (r : ℕ) (v w : SignedVote) (h : Shown) (bytes : List ℕ) → IsEvidence e → IsNamedPair e r v w → Shows e v w h
    → IsVerdictOf bytes (parts_of e r v w h) → IsProof e.committee bytes
proof_of e r v w h bytes is named shown spells =
    let p : VerdictParts = parts_of e r v w h in
    let again = verdict_again bytes p spells in
    let back : p ≡ parts_in bytes = sym again.1 in
    let form = again.0.1 in
    let two = named.offence in
    let good : IsGoodOf e.committee p = (
      subst (λ (q : ℕ). IsGoodVote e.committee (record { replica = q; view = v.view; id = v.id; key = v.key; signature = v.signature })) two.earlier_by (is.good v two.earlier),
      subst (λ (q : ℕ). IsGoodVote e.committee (record { replica = q; view = w.view; id = w.id; key = w.key; signature = w.signature })) two.later_by (is.good w two.later),
    ) in
    let good_again : IsGoodOf e.committee (parts_in bytes) = subst (λ (x : VerdictParts). IsGoodOf e.committee x) back good in
    let broken : BreaksOf (verdict_kind h) (parts_in bytes) = subst (λ (x : VerdictParts). BreaksOf (verdict_kind h) x) back (breaks_it e r v w h shown) in
    let e_in = earlier_in bytes in
    let w_in = later_in bytes in
    let broken_again : BreaksOf (verdict_kind_in bytes) (parts_in bytes) = subst (λ (k : ℕ). BreaksOf k (parts_in bytes)) (sym (kind_again bytes p spells)) broken in
    record {
      verdict = record { magic = form.0; kind = form.1.0; long = form.1.1.0 };
      chain = ap (λ (x : VerdictParts). x.chain) again.1;
      broken = second_by (verdict_kind_in bytes == 1) (IsDoubleVote e_in w_in) (IsLockViolationShown e_in w_in (shown_of (headers_in bytes)))
          (IsSomeAnd (headers_in bytes) (IsLockViolationBy e_in w_in)) (by_headers e_in w_in (headers_in bytes)) broken_again;
      earlier = good_again.0;
      later = good_again.1;
    }

-- and accuses the replica
pub accuses_by : (e : Evidence) (r : ℕ) (v w : SignedVote) (h : Shown) (bytes : List ℕ) → IsNamedPair e r v w → Shows e v w h → IsVerdictOf bytes (parts_of e r v w h)
    → Accuses e r bytes
accuses_by e r v w h bytes named shown spells = record { earlier = v; later = w; named = named; shown = h; shows = shown; spells = spells }
