use Rattle.std.proofs.Common.{◌≡◌, ◌↔◌, ℕ, List, Result, Ok, Err, sym, subst, rules}
use Rattle.std.specs.Prelude.{IfErr, IsErr, IsErrAnd, IsOk}
use Rattle.base_wire.proofs.Order.{refused_fails}
use Rattle.verdict_format.specs.Proofs.{IsProof}
use Rattle.verdict_checker.specs.declared.refusal.Refusal.{Refusal}
use Rattle.verdict_checker.specs.Checks.{IsRefused, Passes, PassesAll, check_order, refusal_number}
use Rattle.verdict_checker.proofs.Accepted.{proof_from, passes_from, sound_from, sound_of_both}
use Rattle.verdict_checker.proofs.Lives.{no_life_apart, no_life_released}
use Rattle.verdict_checker.proofs.checker.check.Goals as goal

pub returns-clause-sound : goal.returns-clause-sound
returns-clause-sound c =
    let passed : PassesAll c.args.committee.now c.args.bytes.now = search rules in
    let proof = proof_from c.args.committee.now c.args.bytes.now passed in
    sound_of_both c.args.committee.now c.args.bytes.now c.no_run_has_a_double_vote.ensures c.no_run_has_a_lock_violation.ensures proof

pub returns-clause-sound_of_double_votes : goal.returns-clause-sound_of_double_votes
returns-clause-sound_of_double_votes c one =
    let passed : PassesAll c.args.committee.now c.args.bytes.now = search rules in
    let proof = proof_from c.args.committee.now c.args.bytes.now passed in
    sound_from c.args.committee.now c.args.bytes.now c.no_run_has_a_double_vote.ensures proof one

pub returns-clause-sound_of_lives : goal.returns-clause-sound_of_lives
returns-clause-sound_of_lives c = no_life_apart c.args.committee.now c.args.bytes.now c.a_life_is_a_run.ensures (returns-clause-sound c)

pub returns-clause-sound_of_lives_and_double_votes : goal.returns-clause-sound_of_lives_and_double_votes
returns-clause-sound_of_lives_and_double_votes c one = no_life_released c.args.committee.now c.args.bytes.now c.a_life_is_a_run.ensures (returns-clause-sound_of_double_votes c one)

-- the verdict that was read is that of the bytes
still_refused : (committee bytes read : List ℕ) (refusal : Refusal) → read ≡ bytes → IsRefused committee read refusal → IsRefused committee bytes refusal
still_refused committee bytes read refusal same refused = subst (λ (b : List ℕ). IsRefused committee b refusal) same refused

handed_on : {A : Type 0} (r : Result A Refusal) (P : Refusal → Type 0) (e : Refusal) → IsErrAnd r (λ x. x ≡ e) → P e → IfErr r P
handed_on (Err x) P e is p = subst P (sym is) p
handed_on (Ok a) P e is p = tt

never : {A : Type 0} (r : Result A Refusal) (committee bytes : List ℕ) (refusal : Refusal) → IsErr r → IsRefused committee bytes refusal → IsOk r ↔ IsProof committee bytes
never (Err x) committee bytes refusal is refused =
    (λ ok. absurd cc, λ p. absurd (refused_fails refusal_number (Passes committee bytes) check_order refusal refused (passes_from committee bytes p)))
never (Ok a) committee bytes refusal is refused = absurd cc

pub returns-in_err-judge-clause-first_refusal : goal.returns-in_err-judge-clause-first_refusal
returns-in_err-judge-clause-first_refusal c =
    handed_on _ _ _ c.from_residual-in_err-judge.ensures.1
    (still_refused c.args.committee.now c.args.bytes.now c.in_ok-verdict.verdict c.in_err-judge.field-0.0 c.in_ok-verdict.ensures.ok.0 c.in_err-judge.ensures.first_refusal)

pub returns-in_err-judge-clause-exact : goal.returns-in_err-judge-clause-exact
returns-in_err-judge-clause-exact c =
    never _ c.args.committee.now c.args.bytes.now c.in_err-judge.field-0.0 c.from_residual-in_err-judge.ensures.0
    (still_refused c.args.committee.now c.args.bytes.now c.in_ok-verdict.verdict c.in_err-judge.field-0.0 c.in_ok-verdict.ensures.ok.0 c.in_err-judge.ensures.first_refusal)
