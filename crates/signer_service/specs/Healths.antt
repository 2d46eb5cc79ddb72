-- Whether a block could get a vote.
use Rattle.std.specs.Prelude.{◌==◌, Option, Some, None, codes, if◌then◌else◌, nat_le}
use Rattle.http_server.specs.declared.response.Response.{Response}
use Rattle.replica_core.specs.declared.refusal.CoreRefusal.TheVariants as core
use Rattle.replica_core.specs.declared.replica.TheConstants.{MOST_HEADERS}
use Rattle.vote_desk.specs.declared.desk_error.DeskError.{DeskError}
use Rattle.vote_desk.specs.declared.desk_error.DeskError.TheVariants as desk
use Rattle.vote_desk.specs.declared.parts.DeskStatus.{DeskStatus}
use Rattle.signer_service.specs.Responses.{IsLine}
use Rattle.signer_service.specs.ToldLines.{named_desk_line}

-- why no new block gets a vote: the first of these. Of a core that is full a start frees places, of a log or a key nothing
abbrev pub trouble_of : DeskStatus → Option DeskError
trouble_of status =
    if status.stopped then Some desk.Stopped
    else if status.left.entries == 0 then Some desk.LogFull
    else if status.left.indices == 0 then Some desk.KeySpent
    else if nat_le MOST_HEADERS status.headers then Some (desk.Core core.TreeFull)
    else None

abbrev pub IsTroubleTold : Option DeskError → Response → Type 0
IsTroubleTold None response = IsLine 200 (codes "ok\n") response
IsTroubleTold (Some trouble) response = IsLine 503 (named_desk_line trouble) response

abbrev pub IsHealthTold : DeskStatus → Response → Type 0
IsHealthTold status response = IsTroubleTold (trouble_of status) response
