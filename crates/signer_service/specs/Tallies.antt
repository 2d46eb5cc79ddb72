-- How often each answer was told. A number that has reached 2^64 - 1 stays.
use Rattle.std.specs.Prelude.{◌≡◌, ◌<◌, ◌+◌, ◌-◌, ◌^◌, ℕ, min}
use Rattle.base_streams.specs.Counting.{one_more}
use Rattle.vote_desk.specs.declared.desk_error.DeskError.TheVariants as desk
use Rattle.vote_desk.specs.declared.reply.Answer.{Answer}
use Rattle.vote_desk.specs.declared.reply.Answer.TheVariants.{Voted, Raised, Held}
use Rattle.replica_requests.specs.declared.outcome.Outcome.{Outcome}
use Rattle.replica_requests.specs.declared.outcome.Outcome.TheVariants as came
use Rattle.signer_answers.specs.declared.told.Told.{Told}
use Rattle.signer_answers.specs.declared.told.Told.TheVariants as tell
use Rattle.signer_calls.specs.declared.call.CallRefusal.{CallRefusal}
use Rattle.signer_calls.specs.declared.call.CallRefusal.TheVariants as refused
use Rattle.signer_service.specs.declared.tallies.Numbers.{Numbers}

-- nothing was told
abbrev pub new_numbers : ℕ → Numbers
new_numbers started = record {
  started = started;
  voted = 0;
  raised = 0;
  held = 0;
  timeouts = 0;
  refused_headers = 0;
  refused_certificates = 0;
  refused_blocks = 0;
  refused_by_core = 0;
  refused_by_desk = 0;
  no_such_calls = 0;
  wrong_methods = 0;
  bad_numbers = 0;
  bad_hosts = 0;
  origins = 0;
  bad_content_types = 0;
  far = 0;
  no_votes = 0;
  bad_targets = 0;
  not_held = 0;
  bad_lengths = 0;
  other_chains = 0;
  not_mine = 0;
  blocks = 0;
  block_micros = 0;
}

abbrev pub after_answer : Numbers → Answer → Numbers
after_answer n (Voted receipt) = record n { voted = one_more n.voted }
after_answer n Raised = record n { raised = one_more n.raised }
after_answer n Held = record n { held = one_more n.held }

abbrev pub after_outcome : Numbers → Outcome → Numbers
after_outcome n (came.Replied reply) = after_answer n reply.act
after_outcome n (came.TimedOut view) = record n { timeouts = one_more n.timeouts }
after_outcome n (came.RefusedHeader refusal) = record n { refused_headers = one_more n.refused_headers }
after_outcome n (came.RefusedCertificate refusal) = record n { refused_certificates = one_more n.refused_certificates }
after_outcome n (came.RefusedBlock refusal) = record n { refused_blocks = one_more n.refused_blocks }
after_outcome n (came.RefusedByDesk (desk.Core refusal)) = record n { refused_by_core = one_more n.refused_by_core }
after_outcome n (came.RefusedByDesk refusal) = record n { refused_by_desk = one_more n.refused_by_desk }

-- a vote that is told again counts as a block that is held; that none is taken, or the log can't be read, as the desk's refusal
abbrev pub after_told : Numbers → Told → Numbers
after_told n (tell.Came outcome) = after_outcome n outcome
after_told n (tell.Again receipt committed) = after_answer n Held
after_told n _ = record n { refused_by_desk = one_more n.refused_by_desk }

abbrev pub after_refusal : Numbers → CallRefusal → Numbers
after_refusal n refused.NoSuchCall = record n { no_such_calls = one_more n.no_such_calls }
after_refusal n (refused.Method methods) = record n { wrong_methods = one_more n.wrong_methods }
after_refusal n refused.Number = record n { bad_numbers = one_more n.bad_numbers }
after_refusal n refused.Host = record n { bad_hosts = one_more n.bad_hosts }
after_refusal n refused.Origin = record n { origins = one_more n.origins }
after_refusal n refused.ContentType = record n { bad_content_types = one_more n.bad_content_types }
after_refusal n refused.Far = record n { far = one_more n.far }
after_refusal n refused.NoVote = record n { no_votes = one_more n.no_votes }
after_refusal n refused.Target = record n { bad_targets = one_more n.bad_targets }
after_refusal n refused.NotHeld = record n { not_held = one_more n.not_held }
after_refusal n refused.Length = record n { bad_lengths = one_more n.bad_lengths }
after_refusal n refused.Chain = record n { other_chains = one_more n.other_chains }

abbrev pub after_not_mine : Numbers → Numbers
after_not_mine n = record n { not_mine = one_more n.not_mine }

abbrev pub after_block : Numbers → ℕ → Numbers
after_block n micros = record n { blocks = one_more n.blocks; block_micros = min (n.block_micros + micros) (2 ^ 64 - 1) }

-- ---- what is counted, is counted once

-- how many answers to blocks and timeouts were counted
abbrev pub answers_of : Numbers → ℕ
answers_of n =
    n.voted + n.raised + n.held + n.timeouts + n.refused_headers + n.refused_certificates + n.refused_blocks + n.refused_by_core
    + n.refused_by_desk

-- how many refused calls were
abbrev pub refusals_of : Numbers → ℕ
refusals_of n =
    n.no_such_calls + n.wrong_methods + n.bad_numbers + n.bad_hosts + n.origins + n.bad_content_types + n.far + n.no_votes
    + n.bad_targets + n.not_held + n.bad_lengths + n.other_chains

-- one answer more, and no refused call
abbrev pub CountsAnswer : (old new : Numbers) → Type 0
CountsAnswer old new = (answers_of new ≡ answers_of old + 1) × (refusals_of new ≡ refusals_of old)

-- one refused call more, and no answer
abbrev pub CountsRefusal : (old new : Numbers) → Type 0
CountsRefusal old new = (refusals_of new ≡ refusals_of old + 1) × (answers_of new ≡ answers_of old)

-- a refused call is counted once, and so is what is told of a block or a timeout, as long as no number has reached its end
abbrev pub EachIsCountedOnce : Type 0
EachIsCountedOnce =
    (n : Numbers) → answers_of n < 2 ^ 64 - 1 → refusals_of n < 2 ^ 64 - 1
    → ((r : CallRefusal) → CountsRefusal n (after_refusal n r)) × ((t : Told) → CountsAnswer n (after_told n t))
