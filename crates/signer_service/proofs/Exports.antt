-- A part of the log that is handed out.
use Rattle.std.proofs.Common.{◌≡◌, ℕ, List, [], Some, Result, Ok, Err, inl, subst, sym}
use Rattle.std.specs.Prelude.{OnOk, min}
use Rattle.blocks.specs.Replica.{Stored}
use Rattle.http_server.specs.declared.response.Response.{Response}
use Rattle.http_server.specs.Response.{IsResponse}
use Rattle.stable_log.specs.declared.disk.Disk.{Ghosts}
use Rattle.vote_desk.specs.Exports.{IsOut}
use Rattle.vote_desk.specs.declared.desk.TheConstants.{MOST_FRAMES_AT_ONCE}
use Rattle.signer_service.specs.CallAnswers.{IsPartTold, SomeOne}
use Rattle.signer_service.specs.Responses.{fields_of_kind}
use Rattle.signer_calls.specs.declared.log_part.LogPart.{LogPart}
use Rattle.signer_service.specs.declared.writing.Kind.TheVariants.{Octets}

-- what was copied behind nothing, and filled in, is the part
pub part_told : {D E : Type 0} (disk : Ghosts D) (committee : List ℕ) (replica : ℕ) (opening : List Stored) (part : LogPart) (frames : ℕ) (before after text : List ℕ) (filled : Result (Unit {0}) E) (response : Response)
    → before ≡ [] → text ≡ after
    → SomeOne disk committee replica opening (λ d. IsOut disk.bytes d.log part.first (min part.most MOST_FRAMES_AT_ONCE) (Some before) (Some after) frames)
    → OnOk filled (IsResponse 200 (fields_of_kind Octets) text response) → OnOk filled (IsPartTold disk committee replica opening part response)
part_told disk committee replica opening part frames before after text (Ok done) response none copied out told = inl (
  text,
  frames,
  subst (λ (t : List ℕ). SomeOne disk committee replica opening (λ d. IsOut disk.bytes d.log part.first (min part.most MOST_FRAMES_AT_ONCE) (Some []) (Some t) frames)) (sym copied)
      (subst (λ (t : List ℕ). SomeOne disk committee replica opening (λ d. IsOut disk.bytes d.log part.first (min part.most MOST_FRAMES_AT_ONCE) (Some t) (Some after) frames)) none out),
  told,
)
part_told disk committee replica opening part frames before after text (Err e) response none copied out told = tt
