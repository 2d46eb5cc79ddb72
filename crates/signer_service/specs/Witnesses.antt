-- What a witness is shown of a call that was answered.
use Rattle.std.specs.Prelude.{◌≡◌, [], ℕ, List, Option, Some, None, length}
use Rattle.bytes.specs.Unread.{IsChunkOf}
use Rattle.http.specs.declared.request.Request.{Request}
use Rattle.http.specs.Request.{head_of}
use Rattle.http_server.specs.declared.response.Response.{Response}
use Rattle.http_uri.specs.Grammar.{or_slash}
use Rattle.http_uri.specs.Uri.{uri_path_and_query}
use Rattle.replica_requests.specs.declared.outcome.Outcome.TheVariants as came
use Rattle.signer_answers.specs.declared.told.Told.{Told}
use Rattle.signer_answers.specs.declared.told.Told.TheVariants as tell
use Rattle.vote_desk.specs.declared.desk_error.DeskError.TheVariants as desk
use Rattle.signer_service.specs.declared.witness.Event.{Event}
use Rattle.signer_service.specs.declared.witness.Event.TheVariants.{Nothing, DiskFailed, PutBack}
use Rattle.signer_service.specs.declared.witness.Seen.{Seen}

-- the path and the query, or nothing where the target names an authority alone
abbrev pub target_text : Option (List ℕ) → List ℕ
target_text (Some text) = or_slash text
target_text None = []

-- what a call came upon that was told this: `Device` is told of a desk that a disk stopped
abbrev pub event_of : Option Told → Event
event_of (Some (tell.Came (came.RefusedByDesk desk.Device))) = DiskFailed
event_of (Some (tell.PutBack ballot)) = PutBack ballot
event_of _ = Nothing

-- the request's method and target, the response's status and body, and what the call came upon
pub record IsSeen (request : Request (List ℕ)) (response : Response) (told : Option Told) (seen : Seen) : Type 0 where
  pub method : seen.method.now ≡ (head_of request).method
  pub target : seen.target.now ≡ target_text (uri_path_and_query (head_of request).uri)
  pub status : seen.status ≡ response.status
  pub count : seen.length ≡ length response.body.items
  pub front : IsChunkOf seen.body.now response.body.items
  pub event : seen.event ≡ event_of told
