-- What may come of a request.
use Rattle.std.specs.Prelude.{◌≡◌, ℕ, List}
use Rattle.blocks.specs.Headers.{Header}
use Rattle.blocks.specs.Replica.{Stored}
use Rattle.certificates.specs.BlockChecks.{CheckedBlock, IsBlockRefusal, IsChecked}
use Rattle.certificates.specs.Certificates.{Certificate}
use Rattle.stable_log.specs.declared.disk.Disk.{Ghosts}
use Rattle.vote_desk.specs.Deliveries.{IsGoodReply}
use Rattle.vote_desk.specs.DeskRefusals.{IsStopped}
use Rattle.vote_desk.specs.SomeDesk.{IsDeskOf, Refuses, Replies, SomeDesk, SomeDeskMoves, TimesOut}
use Rattle.vote_desk.specs.declared.desk_error.DeskError.{DeskError}
use Rattle.vote_desk.specs.declared.desk_error.DeskError.TheVariants as desk
use Rattle.vote_desk.specs.declared.reply.Reply.{Reply}
use Rattle.replica_requests.specs.declared.outcome.Outcome.{Outcome}
use Rattle.replica_requests.specs.declared.outcome.Outcome.TheVariants as came
use Rattle.replica_requests.specs.declared.request.Request.{Request}
use Rattle.replica_requests.specs.declared.request.Request.TheVariants as asks

-- ---- a block

-- the header and the certificate as a checked block of the committee
abbrev pub block_of : List ℕ → Header → Certificate → CheckedBlock
block_of committee header certificate = record { committee = committee; header = header; certificate = certificate }

-- the certificate is good, and some desk of this committee, replica and opening list moved by the block's one event with
-- this reply
pub record IsReplyTo {D : Type 0} (disk : Ghosts D) (committee : List ℕ) (replica : ℕ) (opening : List Stored) (header : Header) (certificate : Certificate) (reply : Reply) : Type 0 where
  pub checked : IsChecked committee header certificate
  pub good : IsGoodReply committee replica header reply
  pub event : SomeDeskMoves (IsDeskOf disk committee replica opening) (Replies disk committee replica (block_of committee header certificate) reply)

-- the certificate is good, and some such desk refuses the block so, and is left so
pub record IsRefusedByDesk {D : Type 0} (disk : Ghosts D) (committee : List ℕ) (replica : ℕ) (opening : List Stored) (header : Header) (certificate : Certificate) (refusal : DeskError) : Type 0 where
  pub checked : IsChecked committee header certificate
  pub refused : SomeDeskMoves (IsDeskOf disk committee replica opening) (Refuses disk header refusal)

-- what may come of a block: its certificate is judged, and if it is good, the block goes to the desk, which replies or
-- refuses
abbrev pub IsAnswerToBlock : {D : Type 0} → Ghosts D → List ℕ → ℕ → List Stored → Header → Certificate → Outcome → Type 0
IsAnswerToBlock disk committee replica opening header certificate (came.Replied reply) =
    IsReplyTo disk committee replica opening header certificate reply
IsAnswerToBlock disk committee replica opening header certificate (came.RefusedBlock refusal) =
    IsBlockRefusal refusal committee header certificate
IsAnswerToBlock disk committee replica opening header certificate (came.RefusedByDesk refusal) =
    IsRefusedByDesk disk committee replica opening header certificate refusal
IsAnswerToBlock disk committee replica opening header certificate _ = ⊥

-- ---- a timeout

-- what may come of a timeout: some desk that runs gives up on the views, or some desk is stopped
abbrev pub IsAnswerToTimeout : {D : Type 0} → Ghosts D → List ℕ → ℕ → List Stored → ℕ → Outcome → Type 0
IsAnswerToTimeout disk committee replica opening view (came.TimedOut at) =
    (at ≡ view) × SomeDeskMoves (IsDeskOf disk committee replica opening) (TimesOut view)
IsAnswerToTimeout disk committee replica opening view (came.RefusedByDesk refusal) =
    (refusal ≡ desk.Stopped) × SomeDesk (IsDeskOf disk committee replica opening) (λ d. IsStopped d)
IsAnswerToTimeout disk committee replica opening view _ = ⊥

-- ---- a request

-- what may come of a request: one that asks for nothing of the desk is answered by what is wrong with it
abbrev pub IsAnswerTo : {D : Type 0} → Ghosts D → List ℕ → ℕ → List Stored → Request → Outcome → Type 0
IsAnswerTo disk committee replica opening (asks.Block header certificate) outcome =
    IsAnswerToBlock disk committee replica opening header certificate outcome
IsAnswerTo disk committee replica opening (asks.Timeout view) outcome = IsAnswerToTimeout disk committee replica opening view outcome
IsAnswerTo disk committee replica opening (asks.RefusedHeader refusal) outcome = outcome ≡ came.RefusedHeader refusal
IsAnswerTo disk committee replica opening (asks.RefusedCertificate refusal) outcome = outcome ≡ came.RefusedCertificate refusal
