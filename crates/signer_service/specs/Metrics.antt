-- The metrics of a signer, as Prometheus reads them (text format 0.0.4). Each part begins where the one before ends its line.
use Rattle.std.specs.Prelude.{◌+◌, ◌++◌, ◌∷◌, [], ℕ, Bool, true, false, List, Option, Some, None, codes}
use Rattle.blocks.specs.declared.ballot.Ballot.{Ballot}
use Rattle.http_server.specs.declared.response.Response.{Response}
use Rattle.http_server.specs.Response.{IsResponse}
use Rattle.vote_desk.specs.declared.parts.DeskStatus.{DeskStatus}
use Rattle.signer_answers.specs.declared.approver.NextKeys.{NextKeys}
use Rattle.signer_answers.specs.declared.approver.NextKeys.TheVariants as keys
use Rattle.signer_answers.specs.declared.sparing.Reserve.{Reserve}
use Rattle.signer_answers.specs.declared.sparing.Reserve.TheVariants as reserve
use Rattle.signer_service.specs.Responses.{field_text, fields_of_kind}
use Rattle.signer_service.specs.declared.going.Going.{Going}
use Rattle.signer_service.specs.declared.metrics.Measured.{Measured}
use Rattle.signer_service.specs.declared.tallies.Numbers.{Numbers}
use Rattle.signer_service.specs.declared.writing.Kind.TheVariants.{Metrics}

-- the view, or 0
abbrev pub committed_view : Option Ballot → ℕ
committed_view (Some ballot) = ballot.view
committed_view None = 0

abbrev pub number_of : Bool → ℕ
number_of true = 1
number_of false = 0

abbrev pub answers_text : Numbers → List ℕ
answers_text numbers =
    field_text (codes "# HELP hs_signer_answers_total What blocks and timeouts were answered.\n# TYPE hs_signer_answers_total counter\nhs_signer_answers_total{answer=\"voted\"} ") numbers.voted
    ++ field_text (codes "\nhs_signer_answers_total{answer=\"raised\"} ") numbers.raised
    ++ field_text (codes "\nhs_signer_answers_total{answer=\"held\"} ") numbers.held
    ++ field_text (codes "\nhs_signer_answers_total{answer=\"timeout\"} ") numbers.timeouts

abbrev pub refusals_text : Numbers → List ℕ
refusals_text numbers =
    field_text (codes "\nhs_signer_answers_total{answer=\"header\"} ") numbers.refused_headers
    ++ field_text (codes "\nhs_signer_answers_total{answer=\"certificate\"} ") numbers.refused_certificates
    ++ field_text (codes "\nhs_signer_answers_total{answer=\"block\"} ") numbers.refused_blocks
    ++ field_text (codes "\nhs_signer_answers_total{answer=\"core\"} ") numbers.refused_by_core

abbrev pub times_text : Numbers → List ℕ
times_text numbers =
    field_text (codes "\nhs_signer_answers_total{answer=\"desk\"} ") numbers.refused_by_desk
    ++ field_text (codes "\n# HELP hs_signer_block_seconds How long blocks took, with their checks.\n# TYPE hs_signer_block_seconds summary\nhs_signer_block_seconds_sum ") numbers.block_micros
    ++ field_text (codes "e-6\nhs_signer_block_seconds_count ") numbers.blocks

abbrev pub calls_text : Numbers → List ℕ
calls_text numbers =
    field_text (codes "\n# HELP hs_signer_refused_calls_total Calls that were refused, by reason.\n# TYPE hs_signer_refused_calls_total counter\nhs_signer_refused_calls_total{reason=\"NoSuchCall\"} ") numbers.no_such_calls
    ++ field_text (codes "\nhs_signer_refused_calls_total{reason=\"Method\"} ") numbers.wrong_methods
    ++ field_text (codes "\nhs_signer_refused_calls_total{reason=\"Number\"} ") numbers.bad_numbers
    ++ field_text (codes "\nhs_signer_refused_calls_total{reason=\"Host\"} ") numbers.bad_hosts

abbrev pub doors_text : Numbers → List ℕ
doors_text numbers =
    field_text (codes "\nhs_signer_refused_calls_total{reason=\"Origin\"} ") numbers.origins
    ++ field_text (codes "\nhs_signer_refused_calls_total{reason=\"ContentType\"} ") numbers.bad_content_types
    ++ field_text (codes "\nhs_signer_refused_calls_total{reason=\"Far\"} ") numbers.far
    ++ field_text (codes "\nhs_signer_refused_calls_total{reason=\"NoVote\"} ") numbers.no_votes

abbrev pub arguments_text : Numbers → List ℕ
arguments_text numbers =
    field_text (codes "\nhs_signer_refused_calls_total{reason=\"Target\"} ") numbers.bad_targets
    ++ field_text (codes "\nhs_signer_refused_calls_total{reason=\"NotHeld\"} ") numbers.not_held
    ++ field_text (codes "\nhs_signer_refused_calls_total{reason=\"Length\"} ") numbers.bad_lengths
    ++ field_text (codes "\nhs_signer_refused_calls_total{reason=\"Chain\"} ") numbers.other_chains

abbrev pub mine_text : Numbers → List ℕ
mine_text numbers =
    field_text (codes "\n# HELP hs_signer_not_mine_total Committees that callers showed or named in which the replica has keys that are not its own.\n# TYPE hs_signer_not_mine_total counter\nhs_signer_not_mine_total ") numbers.not_mine

abbrev pub views_text : DeskStatus → ℕ → List ℕ
views_text status committed =
    field_text (codes "\n# HELP hs_signer_vote_view The greatest view of a vote or a timeout.\n# TYPE hs_signer_vote_view gauge\nhs_signer_vote_view ") status.vote_view
    ++ field_text (codes "\n# HELP hs_signer_lock_view The view of the locked block.\n# TYPE hs_signer_lock_view gauge\nhs_signer_lock_view ") status.lock.view
    ++ field_text (codes "\n# HELP hs_signer_committed_view The greatest committed view that was told, or 0.\n# TYPE hs_signer_committed_view gauge\nhs_signer_committed_view ") committed
    ++ field_text (codes "\n# HELP hs_signer_entries How many entries the log has.\n# TYPE hs_signer_entries gauge\nhs_signer_entries ") status.entries

abbrev pub rooms_text : DeskStatus → ℕ → List ℕ
rooms_text status stopped =
    field_text (codes "\n# HELP hs_signer_entries_left How many more it has room for.\n# TYPE hs_signer_entries_left gauge\nhs_signer_entries_left ") status.left.entries
    ++ field_text (codes "\n# HELP hs_signer_indices_left How many votes the keys can still sign.\n# TYPE hs_signer_indices_left gauge\nhs_signer_indices_left ") status.left.indices
    ++ field_text (codes "\n# HELP hs_signer_headers How many headers are held.\n# TYPE hs_signer_headers gauge\nhs_signer_headers ") status.headers
    ++ field_text (codes "\n# HELP hs_signer_stopped Whether a disk failed, or the log was put back.\n# TYPE hs_signer_stopped gauge\nhs_signer_stopped ") stopped

abbrev pub process_text : Numbers → List ℕ
process_text numbers =
    field_text (codes "\n# HELP hs_build_info The version of this program.\n# TYPE hs_build_info gauge\nhs_build_info{version=\"0.9.0\"} ") 1
    ++ field_text (codes "\n# HELP process_start_time_seconds When the process began, in seconds since 1970.\n# TYPE process_start_time_seconds gauge\nprocess_start_time_seconds ") numbers.started

abbrev pub asking_text : ℕ → List ℕ
asking_text asking =
    field_text (codes "\n# HELP hs_signer_asking Whether others are still asked for votes of this replica.\n# TYPE hs_signer_asking gauge\nhs_signer_asking ") asking

-- ---- going over

abbrev pub next_number : NextKeys → ℕ
next_number keys.None = 0
next_number keys.Making = 1
next_number keys.Made = 2
next_number keys.Endorsed = 3
next_number keys.Stopped = 4

abbrev pub next_text : ℕ → List ℕ
next_text next =
    field_text (codes "\n# HELP hs_signer_next How far the next keys are: 0 none are made, 1 they are made now, 2 made, 3 endorsed, 4 stopped.\n# TYPE hs_signer_next gauge\nhs_signer_next ") next

abbrev pub reserve_number : Reserve → ℕ
reserve_number reserve.None = 0
reserve_number reserve.Ordinary = 1
reserve_number reserve.Handover = 2

abbrev pub reserve_text : ℕ → List ℕ
reserve_text reserve =
    field_text (codes "\n# HELP hs_signer_reserve For which blocks too little is left: 0 none, 1 ordinary ones, 2 all.\n# TYPE hs_signer_reserve gauge\nhs_signer_reserve ") reserve

abbrev pub committees_text : (committees kept : ℕ) → List ℕ
committees_text committees kept =
    field_text (codes "\n# HELP hs_signer_committees_total How many committees the signer was in, this one among them.\n# TYPE hs_signer_committees_total counter\nhs_signer_committees_total ") committees
    ++ field_text (codes "\n# HELP hs_signer_kept_committees In how many committees before this one it had the keys that it has.\n# TYPE hs_signer_kept_committees gauge\nhs_signer_kept_committees ") kept

abbrev pub going_text : Going → List ℕ
going_text it = next_text (next_number it.progress.next) ++ reserve_text (reserve_number it.reserve) ++ committees_text it.progress.committees it.progress.kept

-- ---- the sources

abbrev pub source_text : ℕ → Bool → List ℕ
source_text at heard = field_text (codes "\nhs_signer_source_heard{source=\"") at ++ field_text (codes "\"} ") (number_of heard)

-- a line for each source, the first of this number
abbrev pub source_lines : ℕ → List Bool → List ℕ
source_lines at [] = []
source_lines at (heard ∷ more) = source_text at heard ++ source_lines (at + 1) more

abbrev pub sources_head : List ℕ
sources_head = codes "\n# HELP hs_signer_source_heard Whether the log of a source that is asked was read whole when it was asked last.\n# TYPE hs_signer_source_heard gauge"

abbrev pub sources_text : List Bool → List ℕ
sources_text heard = sources_head ++ source_lines 0 heard ++ codes "\n"

-- ---- the whole

-- a disk failed, or the log was put back
abbrev pub is_stopped : DeskStatus → Option Ballot → Bool
is_stopped status (Some ballot) = true
is_stopped status None = status.stopped

-- the parts but for the sources, one behind the other
unfoldable pub signer_text : Numbers → DeskStatus → (committed stopped asking : ℕ) → Going → List ℕ
signer_text numbers status committed stopped asking going =
    answers_text numbers ++ refusals_text numbers ++ times_text numbers ++ calls_text numbers
    ++ doors_text numbers ++ arguments_text numbers ++ mine_text numbers ++ views_text status committed
    ++ rooms_text status stopped ++ asking_text asking ++ going_text going ++ process_text numbers

abbrev pub metrics_text : Measured → List ℕ
metrics_text m =
    signer_text m.numbers m.status (committed_view m.committed) (number_of (is_stopped m.status m.put_back)) (number_of m.is_asking) m.going
    ++ sources_text m.heard.items

abbrev pub IsMetricsTold : Measured → Response → Type 0
IsMetricsTold m response = IsResponse 200 (fields_of_kind Metrics) (metrics_text m) response
