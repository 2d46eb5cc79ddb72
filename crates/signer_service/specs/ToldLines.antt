-- The line that tells what came of a call, and its status.
use Rattle.std.specs.Prelude.{[], ℕ, List, Option, Some, None, ◌++◌, codes, decimal}
use Rattle.hex.specs.Hex.{encode_lower}
use Rattle.blocks.specs.HeaderReading.{header_refusal_number}
use Rattle.blocks.specs.Headers.{header_id}
use Rattle.blocks.specs.declared.ballot.Ballot.{Ballot}
use Rattle.certificates.specs.BlockChecks.{block_refusal_number}
use Rattle.certificates.specs.CertificateReading.{certificate_refusal_number}
use Rattle.replica_core.specs.Admission.{core_refusal_number}
use Rattle.replica_core.specs.declared.refusal.CoreRefusal.{CoreRefusal}
use Rattle.replica_core.specs.declared.refusal.CoreRefusal.TheVariants as core
use Rattle.vote_log.specs.LogRefusals.{log_error_number}
use Rattle.vote_log.specs.declared.log_error.LogError.{LogError}
use Rattle.vote_desk.specs.DeskRefusals.{desk_error_number}
use Rattle.vote_desk.specs.declared.desk_error.DeskError.{DeskError}
use Rattle.vote_desk.specs.declared.desk_error.DeskError.TheVariants as desk
use Rattle.vote_desk.specs.declared.reply.Answer.{Answer}
use Rattle.vote_desk.specs.declared.reply.Answer.TheVariants.{Voted, Raised, Held}
use Rattle.replica_requests.specs.declared.outcome.Outcome.{Outcome}
use Rattle.replica_requests.specs.declared.outcome.Outcome.TheVariants as came
use Rattle.replica_requests.specs.declared.request.Request.{Request as Asked}
use Rattle.replica_requests.specs.declared.request.Request.TheVariants as asks
use Rattle.replica_requests.specs.OutcomeLines.{answer_text, commit_text, numbered_line}
use Rattle.http_server.specs.declared.response.Response.{Response}
use Rattle.signer_service.specs.Names.{block_refusal_name, certificate_refusal_name, core_refusal_name, desk_error_name, header_refusal_name, log_error_name}
use Rattle.signer_service.specs.Responses.{IsLine, IsPassing, named_line}

-- ---- refusals

-- "refused core N NAME", or "desk N NAME" with the number of another refusal
abbrev pub named_desk_line : DeskError → List ℕ
named_desk_line (desk.Core refusal) = named_line (codes "refused core ") (core_refusal_number refusal) (core_refusal_name refusal)
named_desk_line refusal = named_line (codes "desk ") (desk_error_number refusal) (desk_error_name refusal)

-- "refused log N NAME": what the log has can't be read
abbrev pub unread_line : LogError → List ℕ
unread_line e = named_line (codes "refused log ") (log_error_number e) (log_error_name e)

-- ---- a block

-- the view and the id of the block that a call is of
abbrev pub block_asked : Asked → Option Ballot
block_asked (asks.Block header certificate) = Some (record { view = header.view; id = header_id header })
block_asked _ = None

-- " V ID"
abbrev pub block_text : Option Ballot → List ℕ
block_text (Some block) = codes " " ++ decimal block.view ++ codes " " ++ encode_lower block.id
block_text None = []

-- "voted NUMBER HEX", or of the block of the call "raised V ID" or "held V ID"
abbrev pub act_text : Option Ballot → Answer → List ℕ
act_text block (Voted receipt) = answer_text (Voted receipt)
act_text block Raised = codes "raised" ++ block_text block
act_text block Held = codes "held" ++ block_text block

-- .. and what is committed
abbrev pub reply_line : Option Ballot → Answer → Option (List ℕ) → List ℕ
reply_line block act committed = act_text block act ++ commit_text committed ++ codes "\n"

-- ---- a block or a timeout

-- a refusal has its name behind its number
abbrev pub told_line : Option Ballot → Outcome → List ℕ
told_line block (came.Replied reply) = reply_line block reply.act reply.committed
told_line block (came.TimedOut view) = numbered_line (codes "timeout ") view
told_line block (came.RefusedHeader refusal) =
    named_line (codes "refused header ") (header_refusal_number refusal) (header_refusal_name refusal)
told_line block (came.RefusedCertificate refusal) =
    named_line (codes "refused certificate ") (certificate_refusal_number refusal) (certificate_refusal_name refusal)
told_line block (came.RefusedBlock refusal) =
    named_line (codes "refused block ") (block_refusal_number refusal) (block_refusal_name refusal)
told_line block (came.RefusedByDesk refusal) = named_desk_line refusal

-- ---- why neither is taken

-- "stopped vote view V id ID not in the log"
abbrev pub put_back_line : Ballot → List ℕ
put_back_line ballot =
    codes "stopped vote view " ++ decimal ballot.view ++ codes " id " ++ encode_lower ballot.id ++ codes " not in the log\n"

-- others are still asked for votes of this replica
abbrev pub asking_line : List ℕ
asking_line = codes "asking\n"

-- ---- statuses

-- 507 where there is no more room, 412 where the core refuses the block
abbrev pub core_status : CoreRefusal → ℕ
core_status core.TreeFull = 507
core_status _ = 412

-- .. 503 where memory is wanting, which passes; of a disk that failed, and a desk that is stopped, 500: this process votes no more
abbrev pub desk_status : DeskError → ℕ
desk_status (desk.Core refusal) = core_status refusal
desk_status desk.KeySpent = 507
desk_status desk.LogFull = 507
desk_status desk.Memory = 503
desk_status _ = 500

abbrev pub outcome_status : Outcome → ℕ
outcome_status (came.Replied reply) = 200
outcome_status (came.TimedOut view) = 200
outcome_status (came.RefusedHeader refusal) = 400
outcome_status (came.RefusedCertificate refusal) = 400
outcome_status (came.RefusedBlock refusal) = 422
outcome_status (came.RefusedByDesk refusal) = desk_status refusal

-- the response tells this refusal of the desk: memory may be there again soon, and all others stay as they are
abbrev pub IsDeskTold : DeskError → Response → Type 0
IsDeskTold desk.Memory response = IsPassing (named_desk_line desk.Memory) response
IsDeskTold refusal response = IsLine (desk_status refusal) (named_desk_line refusal) response
