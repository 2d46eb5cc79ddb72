-- What is counted, is counted once.
use Rattle.std.proofs.Common.{◌≡◌, ◌<◌, ◌+◌, ◌-◌, ◌^◌, ℕ, arith, refl}
use Rattle.base_streams.specs.Counting.{one_more}
use Rattle.vote_desk.specs.declared.desk_error.DeskError.{DeskError}
use Rattle.vote_desk.specs.declared.desk_error.DeskError.TheVariants as desk
use Rattle.vote_desk.specs.declared.reply.Answer.{Answer}
use Rattle.vote_desk.specs.declared.reply.Answer.TheVariants.{Voted, Raised, Held}
use Rattle.replica_requests.specs.declared.outcome.Outcome.{Outcome}
use Rattle.replica_requests.specs.declared.outcome.Outcome.TheVariants as came
use Rattle.signer_answers.specs.declared.told.Told.{Told}
use Rattle.signer_answers.specs.declared.told.Told.TheVariants as tell
use Rattle.signer_calls.specs.declared.call.CallRefusal.{CallRefusal}
use Rattle.signer_calls.specs.declared.call.CallRefusal.TheVariants as refused
use Rattle.signer_service.specs.Tallies.{CountsAnswer, CountsRefusal, EachIsCountedOnce, after_answer, after_outcome, after_refusal, after_told, answers_of, refusals_of}
use Rattle.signer_service.specs.declared.tallies.Numbers.{Numbers}

one : (x : ℕ) → x < 2 ^ 64 - 1 → one_more x ≡ x + 1
one x low = omega (arith, low)

refusal_once : (n : Numbers) (r : CallRefusal) → refusals_of n < 2 ^ 64 - 1 → CountsRefusal n (after_refusal n r)
refusal_once n refused.NoSuchCall low = (omega (arith, low, one n.no_such_calls (omega (arith, low))), refl)
refusal_once n (refused.Method methods) low = (omega (arith, low, one n.wrong_methods (omega (arith, low))), refl)
refusal_once n refused.Number low = (omega (arith, low, one n.bad_numbers (omega (arith, low))), refl)
refusal_once n refused.Host low = (omega (arith, low, one n.bad_hosts (omega (arith, low))), refl)
refusal_once n refused.Origin low = (omega (arith, low, one n.origins (omega (arith, low))), refl)
refusal_once n refused.ContentType low = (omega (arith, low, one n.bad_content_types (omega (arith, low))), refl)
refusal_once n refused.Far low = (omega (arith, low, one n.far (omega (arith, low))), refl)
refusal_once n refused.NoVote low = (omega (arith, low, one n.no_votes (omega (arith, low))), refl)
refusal_once n refused.Target low = (omega (arith, low, one n.bad_targets (omega (arith, low))), refl)
refusal_once n refused.NotHeld low = (omega (arith, low, one n.not_held (omega (arith, low))), refl)
refusal_once n refused.Length low = (omega (arith, low, one n.bad_lengths (omega (arith, low))), refl)
refusal_once n refused.Chain low = (omega (arith, low, one n.other_chains (omega (arith, low))), refl)

answer_once : (n : Numbers) (a : Answer) → answers_of n < 2 ^ 64 - 1 → CountsAnswer n (after_answer n a)
answer_once n (Voted receipt) low = (omega (arith, low, one n.voted (omega (arith, low))), refl)
answer_once n Raised low = (omega (arith, low, one n.raised (omega (arith, low))), refl)
answer_once n Held low = (omega (arith, low, one n.held (omega (arith, low))), refl)

desk_once : (n : Numbers) (e : DeskError) → answers_of n < 2 ^ 64 - 1 → CountsAnswer n (after_outcome n (came.RefusedByDesk e))
desk_once n (desk.Core refusal) low = (omega (arith, low, one n.refused_by_core (omega (arith, low))), refl)
desk_once n desk.Memory low = (omega (arith, low, one n.refused_by_desk (omega (arith, low))), refl)
desk_once n desk.KeySpent low = (omega (arith, low, one n.refused_by_desk (omega (arith, low))), refl)
desk_once n desk.LogFull low = (omega (arith, low, one n.refused_by_desk (omega (arith, low))), refl)
desk_once n desk.Device low = (omega (arith, low, one n.refused_by_desk (omega (arith, low))), refl)
desk_once n desk.Stopped low = (omega (arith, low, one n.refused_by_desk (omega (arith, low))), refl)
desk_once n desk.ReceiptMismatch low = (omega (arith, low, one n.refused_by_desk (omega (arith, low))), refl)

outcome_once : (n : Numbers) (o : Outcome) → answers_of n < 2 ^ 64 - 1 → CountsAnswer n (after_outcome n o)
outcome_once n (came.Replied reply) low = answer_once n reply.act low
outcome_once n (came.TimedOut view) low = (omega (arith, low, one n.timeouts (omega (arith, low))), refl)
outcome_once n (came.RefusedHeader refusal) low = (omega (arith, low, one n.refused_headers (omega (arith, low))), refl)
outcome_once n (came.RefusedCertificate refusal) low = (omega (arith, low, one n.refused_certificates (omega (arith, low))), refl)
outcome_once n (came.RefusedBlock refusal) low = (omega (arith, low, one n.refused_blocks (omega (arith, low))), refl)
outcome_once n (came.RefusedByDesk e) low = desk_once n e low

told_once : (n : Numbers) (t : Told) → answers_of n < 2 ^ 64 - 1 → CountsAnswer n (after_told n t)
told_once n (tell.Came outcome) low = outcome_once n outcome low
told_once n (tell.Again receipt committed) low = answer_once n Held low
told_once n (tell.Unread e) low = (omega (arith, low, one n.refused_by_desk (omega (arith, low))), refl)
told_once n (tell.PutBack ballot) low = (omega (arith, low, one n.refused_by_desk (omega (arith, low))), refl)
told_once n tell.Asking low = (omega (arith, low, one n.refused_by_desk (omega (arith, low))), refl)

pub counted_once : EachIsCountedOnce
counted_once n low low' = (λ r. refusal_once n r low', λ t. told_once n t low)
