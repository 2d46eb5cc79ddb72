-- To pass each test is to be a proof, and what is a proof no run of a correct replica has.
use Rattle.std.proofs.Common.{◌≡◌, ◌≤◌, ℕ, List, Option, Some, None, sym, ap, ◌∙◌, subst, refl, inl, inr, arith}
use Rattle.std.specs.Prelude.{◌==◌, ◌++◌, IsSomeAnd}
use Rattle.std.specs.Bool.{MatchBool}
use Rattle.std.specs.List.{Contains}
use Rattle.blocks.specs.Headers.{Header, header_id}
use Rattle.blocks.specs.Chains.{NoCollision}
use Rattle.blocks.specs.Genesis.{genesis_of}
use Rattle.blocks.specs.declared.ballot.Ballot.{Ballot}
use Rattle.blocks.specs.Replica.{Event, ballot_on, IsRun, votes_of, headers_of}
use Rattle.blocks.specs.Rules.{NoRunHasADoubleVote, NoRunHasALockViolation}
use Rattle.verdict_format.specs.Verdicts.{VotedHeaders, IsKind, verdict_kind_in, earlier_in, later_in, headers_in, verdict_length}
use Rattle.verdict_format.specs.Proofs.{IsProof, BreaksRule, IsLockViolationBy, NoRunHasBothVotes, NoRunApartHasBothVotes, shown_by}
use Rattle.verdict_checker.specs.Checks.{HasKeys, HeadersMatch, AreOfVotes, PassesAll}

-- ---- what each kind asks for

-- of kind 1 the first of two things, of kind 2 the second
pub one_asks : (kind : ℕ) (P Q : Type 0) → kind ≡ 1 → MatchBool (kind == 1) P Q → P
one_asks kind P Q one is = subst (λ (k : ℕ). MatchBool (k == 1) P Q) one is

pub asked_of_one : (kind : ℕ) (P Q : Type 0) → kind ≡ 1 → P → MatchBool (kind == 1) P Q
asked_of_one kind P Q one is = subst (λ (k : ℕ). MatchBool (k == 1) P Q) (sym one) is

pub two_asks : (kind : ℕ) (P Q : Type 0) → kind ≡ 2 → MatchBool (kind == 1) P Q → Q
two_asks kind P Q two is = subst (λ (k : ℕ). MatchBool (k == 1) P Q) two is

pub asked_of_two : (kind : ℕ) (P Q : Type 0) → kind ≡ 2 → Q → MatchBool (kind == 1) P Q
asked_of_two kind P Q two is = subst (λ (k : ℕ). MatchBool (k == 1) P Q) (sym two) is

-- ---- proofs and tests

abbrev ballot_from : ℕ → List ℕ → Ballot
ballot_from view id = record { view = view; id = id }

-- a header is that of a vote by view and id
on_block : (h : Header) (e : Ballot) → header_id h ≡ e.id → h.view ≡ e.view → ballot_on h ≡ e
on_block h e id view = ap (λ (v : ℕ). ballot_from v (header_id h)) view ∙ ap (ballot_from e.view) id

-- the headers of a lock violation are those of its votes
of_votes : (e w : Ballot) (o : Option VotedHeaders) → IsSomeAnd o (IsLockViolationBy e w) → IsSomeAnd o (AreOfVotes e w)
of_votes e w (Some h) is = record { earlier = on_block h.earlier e is.e_id is.e_view; later = on_block h.later w is.w_id is.w_view; parent = is.parent }
of_votes e w None is = absurd is

headers_of_proof : (bytes : List ℕ) → IsKind (verdict_kind_in bytes) → BreaksRule bytes → HeadersMatch bytes
headers_of_proof bytes (inl one) broken = asked_of_one _ _ _ one tt
headers_of_proof bytes (inr two) broken = asked_of_two _ _ _ two (of_votes _ _ (headers_in bytes) (two_asks _ _ _ two broken))

pub proof_from : (committee bytes : List ℕ) → PassesAll committee bytes → IsProof committee bytes
proof_from committee bytes all =
    let form = all.1 in
    let claim = form.1.1.1 in
    let keys = claim.1.1.0 in
    let signed = claim.1.1.1.1.1 in
    record {
      verdict = record { magic = form.0; kind = form.1.0; long = form.1.1.0 };
      chain = claim.0;
      broken = claim.1.1.1.1.0;
      earlier = record { known = claim.1.0; key = keys.earlier; signed = signed.0 };
      later = record { known = claim.1.0; key = keys.later; signed = signed.1.0 };
    }

pub passes_from : (committee bytes : List ℕ) → IsProof committee bytes → PassesAll committee bytes
passes_from committee bytes p =
    let v = p.verdict in
    let long = v.long in
    let enough : 39 ≤ verdict_length (verdict_kind_in bytes) = omega arith in
    let keys : HasKeys committee bytes = record { earlier = p.earlier.key; later = p.later.key } in
    (omega (arith, long, enough), (v.magic, (v.kind, (long, (p.chain, (p.earlier.known, (keys, (headers_of_proof bytes v.kind p.broken, (p.broken, (p.earlier.signed, (p.later.signed, tt)))))))))))

-- ---- no run has both votes

-- a double vote
pub sound_from : (committee bytes : List ℕ) → NoRunHasADoubleVote → IsProof committee bytes → verdict_kind_in bytes ≡ 1 → NoRunHasBothVotes committee bytes
sound_from committee bytes law p one run is has_earlier has_later =
    law (genesis_of committee) run (earlier_in bytes) (later_in bytes) is has_earlier has_later (one_asks _ _ _ one p.broken)

-- a lock violation
apart_from : (committee bytes : List ℕ) (o : Option VotedHeaders) → NoRunHasALockViolation → IsSomeAnd o (IsLockViolationBy (earlier_in bytes) (later_in bytes))
    → (run : List Event) → IsRun (genesis_of committee) run → NoCollision (shown_by o ++ headers_of run)
    → Contains (votes_of run) (earlier_in bytes) → Contains (votes_of run) (later_in bytes) → ⊥
apart_from committee bytes (Some h) law is run runs apart has_earlier has_later =
    law (genesis_of committee) run (earlier_in bytes) (later_in bytes) h.earlier h.parent h.later (record { view = refl; parent_view = refl }) runs has_earlier has_later apart is
apart_from committee bytes None law is run runs apart has_earlier has_later = absurd is

pub sound_of_both : (committee bytes : List ℕ) → NoRunHasADoubleVote → NoRunHasALockViolation → IsProof committee bytes → NoRunApartHasBothVotes committee bytes
sound_of_both committee bytes double lock p = by_kind p.verdict.kind
  where
    by_kind : IsKind (verdict_kind_in bytes) → NoRunApartHasBothVotes committee bytes
    by_kind (inl one) run runs apart has_earlier has_later = sound_from committee bytes double p one run runs has_earlier has_later
    by_kind (inr two) run runs apart has_earlier has_later = apart_from committee bytes (headers_in bytes) lock (two_asks _ _ _ two p.broken) run runs apart has_earlier has_later
