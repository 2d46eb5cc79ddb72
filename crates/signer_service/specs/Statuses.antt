-- What a desk tells of itself, as JSON. Views are texts, since some readers keep no whole number above 2^53.
use Rattle.std.specs.Prelude.{◌≡◌, ◌++◌, ℕ, List, Option, Some, None, codes, decimal}
use Rattle.hex.specs.Hex.{encode_lower}
use Rattle.blocks.specs.Genesis.{chain_id_of}
use Rattle.blocks.specs.declared.ballot.Ballot.{Ballot}
use Rattle.signer_service.specs.declared.halt.Halt.{Halt}
use Rattle.signer_service.specs.declared.halt.Halt.TheVariants as halt
use Rattle.http_server.specs.declared.response.Response.{Response}
use Rattle.http_server.specs.Response.{IsResponse}
use Rattle.vote_desk.specs.declared.desk_error.DeskError.{DeskError}
use Rattle.vote_desk.specs.declared.desk_error.DeskError.TheVariants as desk
use Rattle.vote_desk.specs.declared.parts.DeskStatus.{DeskStatus}
use Rattle.signer_answers.specs.Approvals.{Telling}
use Rattle.signer_answers.specs.Sparings.{reserve_of}
use Rattle.signer_answers.specs.declared.approver.NextKeys.{NextKeys}
use Rattle.signer_answers.specs.declared.approver.NextKeys.TheVariants as keys
use Rattle.signer_answers.specs.declared.sparing.Reserve.{Reserve}
use Rattle.signer_answers.specs.declared.sparing.Reserve.TheVariants as reserve
use Rattle.signer_service.specs.declared.going.Going.{Going}
use Rattle.signer_service.specs.Healths.{trouble_of}
use Rattle.signer_service.specs.Responses.{field_text, fields_of_kind}
use Rattle.signer_service.specs.declared.writing.Kind.TheVariants.{Json}

-- a view and an id
abbrev pub ballot_text : ℕ → List ℕ → List ℕ
ballot_text view id = codes "{\"view\":\"" ++ decimal view ++ codes "\",\"id\":\"" ++ encode_lower id ++ codes "\"}"

abbrev pub name_text : List ℕ → ℕ → List ℕ
name_text chain replica =
    codes "{\"format\":\"wezhgula-status-1\",\"chain\":\"" ++ encode_lower chain ++ codes "\",\"replica\":" ++ decimal replica

-- why no block gets a vote, in a word
abbrev pub trouble_name : Option DeskError → List ℕ
trouble_name None = codes "voting"
trouble_name (Some desk.LogFull) = codes "full"
trouble_name (Some (desk.Core refusal)) = codes "full"
trouble_name (Some desk.KeySpent) = codes "spent"
trouble_name (Some _) = codes "stopped"

-- .. but where the log was put back, or others are asked first
abbrev pub state_name : Option Halt → Option DeskError → List ℕ
state_name (Some (halt.PutBack ballot)) trouble = codes "put back"
state_name (Some halt.Asking) trouble = codes "asking"
state_name None trouble = trouble_name trouble

abbrev pub state_text : DeskStatus → Option Halt → List ℕ
state_text status halted = codes ",\"state\":\"" ++ state_name halted (trouble_of status) ++ codes "\""

abbrev pub views_text : DeskStatus → List ℕ
views_text status =
    field_text (codes ",\"vote_view\":\"") status.vote_view ++ field_text (codes "\",\"stored_vote_view\":\"") status.stored_vote_view
    ++ codes "\",\"lock\":"

abbrev pub counts_text : DeskStatus → List ℕ
counts_text status =
    field_text (codes ",\"headers\":") status.headers ++ field_text (codes ",\"entries\":") status.entries
    ++ field_text (codes ",\"entries_left\":") status.left.entries ++ field_text (codes ",\"indices_left\":") status.left.indices

abbrev pub committed_text : Option Ballot → List ℕ
committed_text None = codes "null"
committed_text (Some ballot) = ballot_text ballot.view ballot.id

-- how far the next keys are, in a word
abbrev pub next_name : NextKeys → List ℕ
next_name keys.None = codes "none"
next_name keys.Making = codes "making"
next_name keys.Made = codes "made"
next_name keys.Endorsed = codes "endorsed"
next_name keys.Stopped = codes "stopped"

-- for which blocks too little is left
abbrev pub reserve_name : Reserve → List ℕ
reserve_name reserve.None = codes "none"
reserve_name reserve.Ordinary = codes "ordinary"
reserve_name reserve.Handover = codes "handover"

abbrev pub going_text : Going → List ℕ
going_text it =
    codes ",\"next\":\"" ++ next_name it.progress.next ++ codes "\",\"reserve\":\"" ++ reserve_name it.reserve
    ++ field_text (codes "\",\"committees\":") it.progress.committees ++ field_text (codes ",\"kept_committees\":") it.progress.kept

-- for which blocks too little is left is by what is left
abbrev pub IsGoing : Telling → DeskStatus → Going → Type 0
IsGoing tells status going = going.reserve ≡ reserve_of tells.spares status.left

-- the parts, one behind the other
abbrev pub status_text : List ℕ → ℕ → DeskStatus → Option Halt → Option Ballot → Going → List ℕ
status_text chain replica status halted committed going =
    name_text chain replica ++ state_text status halted ++ views_text status ++ ballot_text status.lock.view status.lock.id
    ++ counts_text status ++ going_text going ++ codes ",\"committed\":" ++ committed_text committed ++ codes "}\n"

abbrev pub IsStatusTold : List ℕ → ℕ → DeskStatus → Option Halt → Option Ballot → Going → Response → Type 0
IsStatusTold committee replica status halted committed going response =
    IsResponse 200 (fields_of_kind Json) (status_text (chain_id_of committee) replica status halted committed going) response
