-- What is answered to a call.
use Rattle.std.specs.Prelude.{◌≡◌, ◌≢◌, ◌⊎◌, ◌<◌, ◌≤◌, ◌+◌, ◌++◌, [], ◌∷◌, ℕ, List, Bool, true, false, Option, Some, None, IfSome, IsSome, MatchOption, Result, codes, min}
use Rattle.blocks.specs.Genesis.{chain_id_of}
use Rattle.blocks.specs.Headers.{Header, header_id}
use Rattle.blocks.specs.Replica.{Stored}
use Rattle.blocks.specs.declared.ballot.Ballot.{Ballot}
use Rattle.certificates.specs.declared.vote.SignedVote.{SignedVote}
use Rattle.handover_blocks.specs.Handovers.{handover_mark, handover_payload}
use Rattle.http.specs.declared.request.Request.{Request}
use Rattle.http_server.specs.declared.response.Response.{Response}
use Rattle.http_server.specs.Exchange.{Call as Exchanged}
use Rattle.http_server.specs.Response.{IsResponse, fields_of}
use Rattle.handover_light.specs.LightProofs.{LightProof}
use Rattle.handover_light.specs.Proving.{handover_block}
use Rattle.stable_log.specs.declared.disk.Disk.{Ghosts}
use Rattle.vote_log.specs.declared.export_error.ExportError.{ExportError}
use Rattle.vote_log.specs.declared.export_error.ExportError.TheVariants as export
use Rattle.vote_log.specs.declared.log_error.LogError.{LogError}
use Rattle.vote_log.specs.declared.log_error.LogError.TheVariants as log
use Rattle.vote_desk.specs.Desks.{DeskView, HoldsId, status_of}
use Rattle.vote_desk.specs.Endorsing.{RefusesToEndorse}
use Rattle.vote_desk.specs.Exports.{IsOut, RefusesExport}
use Rattle.replica_core.specs.Marks.{HasNoMarkedIn, IsFirstMarkedIn}
use Rattle.vote_desk.specs.SomeDesk.{IsDeskOf, SomeDesk, SomeDeskMoves, TimesOut}
use Rattle.vote_desk.specs.Votes.{IsVoteFound, RefusesVoteIn}
use Rattle.vote_desk.specs.declared.desk.TheConstants.{MOST_FRAMES_AT_ONCE}
use Rattle.vote_desk.specs.declared.desk_error.DeskError.TheVariants as desk
use Rattle.vote_desk.specs.declared.parts.DeskStatus.{DeskStatus}
use Rattle.vote_desk.specs.declared.reply.Answer.TheVariants.{Voted}
use Rattle.vote_desk.specs.declared.reply.Receipt.{Receipt}
use Rattle.replica_requests.specs.Requests.{IsOfBlock}
use Rattle.replica_requests.specs.SessionReceipts.{ReceiptsGrow}
use Rattle.replica_requests.specs.declared.outcome.Outcome.{Outcome}
use Rattle.replica_requests.specs.declared.outcome.Outcome.TheVariants as came
use Rattle.replica_requests.specs.declared.request.Request.{Request as Asked}
use Rattle.replica_requests.specs.declared.request.Request.TheVariants as asks
use Rattle.replica_requests.specs.OutcomeLines.{answer_text}
use Rattle.signer_answers.specs.Approvals.{Telling}
use Rattle.signer_answers.specs.declared.approver.OverFault.{OverFault}
use Rattle.signer_answers.specs.declared.approver.OverFault.TheVariants as fault
use Rattle.signer_answers.specs.BlockAnswers.{IsSignerAnswer}
use Rattle.signer_answers.specs.Guards.{WasPutBack}
use Rattle.signer_answers.specs.Hearings.{HasHeard}
use Rattle.signer_answers.specs.Showings.{Showing}
use Rattle.signer_answers.specs.Tellings.{HasItsReceipt, receipts_behind}
use Rattle.signer_answers.specs.declared.told.Told.{Told}
use Rattle.signer_answers.specs.declared.told.Told.TheVariants as tell
use Rattle.signer_calls.specs.Asking.{AsksFor}
use Rattle.signer_service.specs.Commits.{IsCommitOf}
use Rattle.signer_service.specs.Healths.{IsHealthTold}
use Rattle.signer_service.specs.Judging.{IsCertificateTold, IsJudgementTold}
use Rattle.signer_service.specs.Metrics.{IsMetricsTold}
use Rattle.signer_service.specs.Proving.{HasOtherKeys, IsProofOf, IsUnproved, IsUnprovedTold}
use Rattle.signer_service.specs.Refusals.{IsRefusalTold}
use Rattle.signer_service.specs.Responses.{IsLine, IsPassing, fields_of_kind}
use Rattle.signer_service.specs.Renewing.{IsNextFaultTold, IsRenewingTold, IsShown}
use Rattle.signer_service.specs.Statuses.{IsGoing, IsStatusTold}
use Rattle.signer_service.specs.Successors.{IsSuccessorTold}
use Rattle.signer_service.specs.ToldLines.{IsDeskTold, asking_line, block_asked, outcome_status, put_back_line, reply_line, told_line, unread_line}
use Rattle.signer_calls.specs.declared.call.Over.{Over}
use Rattle.signer_calls.specs.declared.call.Renewing.{Renewing as RenewCall}
use Rattle.signer_calls.specs.declared.call.Call.{Call}
use Rattle.signer_calls.specs.declared.call.Call.TheVariants as call
use Rattle.signer_calls.specs.declared.call.CallRefusal.TheVariants as refused
use Rattle.signer_calls.specs.declared.log_part.LogPart.{LogPart}
use Rattle.signer_calls.specs.declared.rules.Rules.{Rules}
use Rattle.signer_service.specs.Crossings.{gone_line, no_commit_line, not_mine_line, other_file_line, refused_committee_line, stopped_over_line}
use Rattle.signer_service.specs.declared.crossing.Crossing.{Crossing}
use Rattle.signer_service.specs.declared.crossing.Crossing.TheVariants as crossing
use Rattle.signer_service.specs.declared.crossing.TheConstants.{MOST_VIEW}
use Rattle.signer_service.specs.declared.endorsing.Endorsing.{Endorsing}
use Rattle.signer_service.specs.declared.endorsing.Endorsing.TheVariants as endorsing
use Rattle.signer_service.specs.declared.going.Going.{Going}
use Rattle.signer_service.specs.declared.halt.Halt.{Halt}
use Rattle.signer_service.specs.declared.halt.Halt.TheVariants as halt
use Rattle.signer_service.specs.declared.metrics.Measured.{Measured}
use Rattle.signer_service.specs.declared.proving.Unproved.{Unproved}
use Rattle.signer_service.specs.declared.renewing.NotRenewing.{NotRenewing}
use Rattle.signer_service.specs.declared.renewing.Renewing.{Renewing}
use Rattle.signer_service.specs.declared.writing.Kind.TheVariants.{Octets}

-- ---- lines

-- the response tells that what the log has can't be read
abbrev pub IsUnreadTold : LogError → Response → Type 0
IsUnreadTold e response = IsLine 503 (unread_line e) response

-- the response tells why the log was not read: for want of memory, since it is stopped, or since it can't be
abbrev pub IsLogTold : LogError → Response → Type 0
IsLogTold log.Memory response = IsDeskTold desk.Memory response
IsLogTold log.Stopped response = IsDeskTold desk.Stopped response
IsLogTold e response = IsUnreadTold e response

-- the response tells that the log was put back: this process takes no more blocks
abbrev pub IsPutBackTold : Ballot → Response → Type 0
IsPutBackTold ballot response = IsLine 500 (put_back_line ballot) response

-- the response tells that others are still asked
abbrev pub IsAskingTold : Response → Type 0
IsAskingTold response = IsPassing asking_line response

-- the response tells why no block or timeout is taken
abbrev pub IsHaltTold : Halt → Response → Type 0
IsHaltTold (halt.PutBack ballot) response = IsPutBackTold ballot response
IsHaltTold halt.Asking response = IsAskingTold response

-- that the log was put back keeps them from being taken
abbrev pub IsStop : Option Halt → Type 0
IsStop (Some (halt.PutBack ballot)) = Unit {0}
IsStop _ = ⊥

-- .. and is what is told of one
abbrev pub IsStopTo : Option Told → Type 0
IsStopTo (Some (tell.PutBack ballot)) = Unit {0}
IsStopTo _ = ⊥

-- .. of each block and timeout
abbrev pub IsStopped : Call → Option Told → Type 0
IsStopped (call.Replica asked) told = IsStopTo told
IsStopped asked told = Unit {0}

-- why none is taken, in a line
abbrev pub halt_line : Halt → List ℕ
halt_line (halt.PutBack ballot) = put_back_line ballot
halt_line halt.Asking = asking_line

-- the response tells what came of a call of this block, or of none
abbrev pub IsCameTold : Option Ballot → Outcome → Response → Type 0
IsCameTold block (came.RefusedByDesk refusal) response = IsDeskTold refusal response
IsCameTold block outcome response = IsLine (outcome_status outcome) (told_line block outcome) response

-- .. or the vote that the log has for it, that this can't be read, that the log was put back, that others are still asked, or that
-- the view lies too far ahead
abbrev pub IsOutcomeTold : Option Ballot → Option Told → Response → Type 0
IsOutcomeTold block (Some (tell.Came outcome)) response = IsCameTold block outcome response
IsOutcomeTold block (Some (tell.Again receipt committed)) response = IsLine 200 (reply_line block (Voted receipt) committed) response
IsOutcomeTold block (Some (tell.Unread e)) response = IsUnreadTold e response
IsOutcomeTold block (Some (tell.PutBack ballot)) response = IsPutBackTold ballot response
IsOutcomeTold block (Some tell.Asking) response = IsAskingTold response
IsOutcomeTold block None response = IsRefusalTold refused.Far response

-- the response tells a vote of the log
abbrev pub IsReceiptTold : Receipt → Response → Type 0
IsReceiptTold receipt response = IsLine 200 (answer_text (Voted receipt) ++ codes "\n") response

-- the view of the parent of a block that is asked for
abbrev pub parent_view_of : Asked → ℕ
parent_view_of (asks.Block header certificate) = header.parent_view
parent_view_of _ = 0

-- the block that is committed by what was told
abbrev pub committed_by : Told → Option (List ℕ)
committed_by (tell.Came (came.Replied reply)) = reply.committed
committed_by (tell.Again receipt committed) = committed
committed_by _ = None

-- what a refused export is of the log: the sink is memory
abbrev pub from_export : ExportError → LogError
from_export export.Stopped = log.Stopped
from_export export.Device = log.Device
from_export _ = log.Memory

-- the receipts of a session after what it was told
abbrev pub receipts_told : List Receipt → Option Told → List Receipt
receipts_told receipts (Some it) = receipts_behind receipts it
receipts_told receipts None = receipts

-- ---- blocks behind each other

-- the response is this one with these lines in front
abbrev pub IsBehind : List ℕ → Response → Response → Type 0
IsBehind lines one response = IsResponse one.status (fields_of one) (lines ++ one.body.items) response

-- the response tells no line, since memory was refused for one
abbrev pub IsUnheld : Response → Type 0
IsUnheld response = IsResponse 503 [] [] response

-- it is this one with these lines in front, or there are such lines and no memory for all
abbrev pub IsPutBehind : List ℕ → Response → Response → Type 0
IsPutBehind lines one response = IsBehind lines one response ⊎ ((lines ≢ []) × IsUnheld response)

-- nothing more is asked of what is told of one
abbrev pub AnyTold : Option Told → Type 0
AnyTold told = Unit {0}

-- ---- a call to go over

-- the response tells why it does not go over: memory may be there again soon
abbrev pub IsOverFaultTold : OverFault → Response → Type 0
IsOverFaultTold fault.Memory response = IsDeskTold desk.Memory response
IsOverFaultTold (fault.Committee refusal) response = IsLine 422 (refused_committee_line refusal) response
IsOverFaultTold fault.NotMine response = IsLine 422 not_mine_line response
IsOverFaultTold fault.Stopped response = IsLine 500 stopped_over_line response

-- .. or what else came of it
abbrev pub IsCrossingTold : Crossing → Response → Type 0
IsCrossingTold (crossing.Gone chain) response = IsLine 200 (gone_line chain) response
IsCrossingTold crossing.NoCommit response = IsLine 412 no_commit_line response
IsCrossingTold (crossing.OtherFile payload) response = IsLine 422 (other_file_line payload) response
IsCrossingTold (crossing.Unproved unproved) response = IsUnprovedTold unproved response
IsCrossingTold (crossing.Refused fault) response = IsOverFaultTold fault response
IsCrossingTold (crossing.Desk refusal) response = IsDeskTold refusal response
IsCrossingTold (crossing.Halted halted) response = IsHaltTold halted response
IsCrossingTold crossing.Elsewhere response = IsRefusalTold refused.Chain response

-- it is gone over to the chain of the committee of this file, or the file is no committee's
abbrev pub IsGoneTo : List ℕ → Crossing → Type 0
IsGoneTo file (crossing.Gone chain) = chain ≡ chain_id_of file
IsGoneTo file (crossing.Refused refusal) = Unit {0}
IsGoneTo file _ = ⊥

-- ---- the next keys

-- the response tells what came of a call to endorse them
abbrev pub IsEndorsingTold : Endorsing → Response → Type 0
IsEndorsingTold (endorsing.Said bytes) response = IsResponse 200 (fields_of_kind Octets) bytes.items response
IsEndorsingTold (endorsing.Next fault) response = IsNextFaultTold fault response
IsEndorsingTold (endorsing.Desk refusal) response = IsDeskTold refusal response
IsEndorsingTold (endorsing.Halted halted) response = IsHaltTold halted response

-- .. or of a committee that is shown with a renewal
abbrev pub IsRenewalTold : List ℕ → Telling → RenewCall → Response → Type 0
IsRenewalTold committee tells shown response =
    (it : Result Renewing NotRenewing) × IsShown committee tells shown.renewal shown.file it × IsRenewingTold it response

-- ---- by some desk

module _ {D : Type 0} (disk : Ghosts D) (committee : List ℕ) (replica : ℕ) (opening : List Stored) where
  -- some desk of this committee, replica and opening list is so
  abbrev pub SomeOne : (DeskView D → Type 0) → Type 0
  SomeOne Is = SomeDesk (IsDeskOf disk committee replica opening) Is

  -- some such desk moves so
  abbrev pub SomeMove : ((old new : DeskView D) → Type 0) → Type 0
  SomeMove Moves = SomeDeskMoves (IsDeskOf disk committee replica opening) Moves

  -- the view of a block or a timeout lies too far above the vote view
  abbrev pub IsFar : ℕ → Asked → Type 0
  IsFar furthest (asks.Block header certificate) = SomeOne (λ d. d.core.state.vote_view + furthest < header.view)
  IsFar furthest (asks.Timeout view) = SomeOne (λ d. d.core.state.vote_view + furthest < view)
  IsFar furthest _ = ⊥

  -- .. does not
  abbrev pub IsNear : ℕ → Asked → Type 0
  IsNear furthest (asks.Block header certificate) = SomeOne (λ d. header.view ≤ d.core.state.vote_view + furthest)
  IsNear furthest (asks.Timeout view) = SomeOne (λ d. view ≤ d.core.state.vote_view + furthest)
  IsNear furthest _ = Unit {0}

  -- where others are asked at all, enough of them were heard
  abbrev pub IsPast : Bool → Type 0
  IsPast asks = asks ≡ true → HasHeard disk committee replica opening

  -- .. or they are still asked
  abbrev pub IsShut : (asks asking : Bool) → Type 0
  IsShut asks true = asks ≡ true
  IsShut asks false = IsPast asks

  -- why no block or timeout is taken: the log was put back, or others are asked first
  abbrev pub IsHalt : Bool → Halt → Type 0
  IsHalt asks (halt.PutBack ballot) = WasPutBack disk committee replica opening ballot
  IsHalt asks halt.Asking = asks ≡ true

  -- why none is taken, if none is; it is that the log was put back, for a caller who was shown that
  pub record IsHalted (asks : Bool) (shown : Option Showing) (halted : Option Halt) : Type 0 where
    pub why : MatchOption halted (IsPast asks) (IsHalt asks)
    pub stops : IsSome shown → IsStop halted

  -- what comes of a block or a timeout of a caller who has these receipts: that the log was put back, that others are asked first, or
  -- its answer, once enough were heard; none where its view lies too far, and then nothing is delivered
  abbrev pub IsOutcomeOf : ℕ → Bool → Telling → List Receipt → Asked → Option Told → Type 0
  IsOutcomeOf furthest asks tells receipts asked (Some (tell.PutBack ballot)) = WasPutBack disk committee replica opening ballot
  IsOutcomeOf furthest asks tells receipts asked (Some tell.Asking) = asks ≡ true
  IsOutcomeOf furthest asks tells receipts asked (Some it) =
      IsPast asks × IsNear furthest asked × IsSignerAnswer disk committee replica opening tells receipts asked it
  IsOutcomeOf furthest asks tells receipts asked None = IsPast asks × IsFar furthest asked

  -- the log's vote in this view, or that there is none, or why it cannot be read
  abbrev pub IsVoteTold : ℕ → Response → Type 0
  IsVoteTold view response =
      ((receipt : Receipt) × SomeOne (λ d. IsVoteFound disk.bytes replica d.log view (Some receipt)) × IsReceiptTold receipt response)
      ⊎ (SomeOne (λ d. IsVoteFound disk.bytes replica d.log view None) × IsRefusalTold refused.NoVote response)
      ⊎ ((e : LogError) × SomeMove (RefusesVoteIn disk view e) × IsLogTold e response)

  -- whether the header of this id is held
  abbrev pub IsHeaderTold : List ℕ → Response → Type 0
  IsHeaderTold id response =
      (SomeOne (λ d. HoldsId d id) × IsLine 200 (codes "held\n") response)
      ⊎ (SomeOne (λ d. HoldsId d id → ⊥) × IsRefusalTold refused.NotHeld response)

  -- the export of a part of some list, at most 64 entries, or why it cannot be read
  abbrev pub IsPartTold : LogPart → Response → Type 0
  IsPartTold part response =
      ((text : List ℕ) × (frames : ℕ)
      × SomeOne (λ d. IsOut disk.bytes d.log part.first (min part.most MOST_FRAMES_AT_ONCE) (Some []) (Some text) frames)
      × IsResponse 200 (fields_of_kind Octets) text response)
      ⊎ ((e : ExportError) × SomeMove (RefusesExport disk part.first (min part.most MOST_FRAMES_AT_ONCE) e) × IsLogTold (from_export e) response)

  -- why no block or timeout is taken, or whether a vote is good
  abbrev pub IsVoteJudged : Bool → Option Showing → SignedVote → Response → Type 0
  IsVoteJudged asks shown vote response =
      ((it : Halt) × IsHalted asks shown (Some it) × IsHaltTold it response)
      ⊎ (IsHalted asks shown None × IsJudgementTold committee vote response)

  -- .. or how a desk is: to who asks for its health both are told alike, by 503
  abbrev pub IsDeskHealthTold : Bool → Option Showing → Response → Type 0
  IsDeskHealthTold asks shown response =
      ((it : Halt) × IsHalted asks shown (Some it) × IsLine 503 (halt_line it) response)
      ⊎ (IsHalted asks shown None × ((status : DeskStatus) × SomeOne (λ d. status ≡ status_of d) × IsHealthTold status response))

  -- what a desk is at, why no block or timeout is taken if none is, and a block that some block with a good certificate commits,
  -- or none that is known
  abbrev pub IsDeskStatusTold : Bool → Telling → Option Showing → Response → Type 0
  IsDeskStatusTold asks tells shown response =
      (status : DeskStatus) × (halted : Option Halt) × (committed : Option Ballot) × (going : Going) × SomeOne (λ d. status ≡ status_of d)
      × IsHalted asks shown halted × IfSome committed (IsCommitOf committee) × IsGoing tells status going
      × IsStatusTold committee replica status halted committed going response

  -- .. and some numbers of what was told, and of the sources that were heard; and that the log was put back, to who was shown that
  pub record IsMeasured (asks : Bool) (tells : Telling) (shown : Option Showing) (m : Measured) : Type 0 where
    pub status : SomeOne (λ d. m.status ≡ status_of d)
    pub put_back : IfSome m.put_back (WasPutBack disk committee replica opening)
    pub stops : IsSome shown → IsSome m.put_back
    pub committed : IfSome m.committed (IsCommitOf committee)
    pub asking : IsShut asks m.is_asking
    pub going : IsGoing tells m.status m.going

  abbrev pub IsDeskMetricsTold : Bool → Telling → Option Showing → Response → Type 0
  IsDeskMetricsTold asks tells shown response = (m : Measured) × IsMeasured asks tells shown m × IsMetricsTold m response

  -- ---- the next keys

  -- what comes of a call to endorse them: why no block is taken; the endorsement that is said; why the next keys can't be told; or some
  -- desk's refusal to sign
  abbrev pub IsEndorsingOf : Bool → Telling → Option Showing → Endorsing → Type 0
  IsEndorsingOf asks tells shown (endorsing.Said bytes) = IsHalted asks shown None × tells.endorsed bytes.items
  IsEndorsingOf asks tells shown (endorsing.Next fault) = IsHalted asks shown None
  IsEndorsingOf asks tells shown (endorsing.Desk refusal) = IsHalted asks shown None × SomeMove (RefusesToEndorse disk refusal)
  IsEndorsingOf asks tells shown (endorsing.Halted halted) = IsHalted asks shown (Some halted)

  abbrev pub IsEndorsementTold : Bool → Telling → Option Showing → Response → Type 0
  IsEndorsementTold asks tells shown response = (it : Endorsing) × IsEndorsingOf asks tells shown it × IsEndorsingTold it response

  -- ---- a call to go over

  -- a block was told as committed, and on some desk this is the lowest handover block in its chain
  pub record IsHandedOver (handover : Header) : Type 0 where
    pub commit : Ballot
    pub told : IsCommitOf committee commit
    pub first : SomeOne (λ d. IsFirstMarkedIn d.core handover_mark commit.id handover)

  -- none was told, or on some desk there is none in its chain
  abbrev pub IsNoneHandedOver : Option Ballot → Type 0
  IsNoneHandedOver commit = IfSome commit (λ it. IsCommitOf committee it × SomeOne (λ d. HasNoMarkedIn d.core handover_mark it.id))

  -- a light proof of these bytes shows that this block hands over from the committee, and is committed
  pub record IsProvedOver (text : List ℕ) (handover : Header) : Type 0 where
    pub proof : LightProof
    pub shows : IsProofOf committee text proof
    pub block : handover ≡ handover_block proof

  -- by what it is known that the block handed over: by the light proof of the call, or else by what was told
  abbrev pub IsKnownBy : Option (List ℕ) → Header → Type 0
  IsKnownBy (Some text) handover = IsProvedOver text handover
  IsKnownBy None handover = IsHandedOver handover

  -- the light proof of the call shows none
  abbrev pub IsUnprovedBy : Option (List ℕ) → Unproved → Type 0
  IsUnprovedBy (Some text) unproved = IsUnproved committee text unproved
  IsUnprovedBy None unproved = ⊥

  -- by the light proof of a call one may go over before others were heard, to a committee in which the replica has other keys
  pub record MayPass (over : Over) : Type 0 where
    pub proved : over.proof ≢ None
    pub other : HasOtherKeys committee over.file replica

  -- blocks are taken; or others are still asked, and it may go over all the same
  abbrev pub IsFree : Bool → Option Showing → Over → Type 0
  IsFree asks shown over = IsHalted asks shown None ⊎ (IsHalted asks shown (Some halt.Asking) × MayPass over)

  -- .. or it may not
  pub record IsHeldBack (asks : Bool) (shown : Option Showing) (over : Over) (halted : Halt) : Type 0 where
    pub halts : IsHalted asks shown (Some halted)
    pub stays : halted ≡ halt.Asking → MayPass over → ⊥

  -- the call is of this chain, nothing holds it back, and it was handed over by this block
  pub record IsAtHandover (asks : Bool) (shown : Option Showing) (over : Over) (handover : Header) : Type 0 where
    pub here : over.chain ≡ chain_id_of committee
    pub free : IsFree asks shown over
    pub handed : IsKnownBy over.proof handover

  -- .. or, whatever its light proof shows, this was told
  pub record IsKnownAt (asks : Bool) (shown : Option Showing) (over : Over) (handover : Header) : Type 0 where
    pub here : over.chain ≡ chain_id_of committee
    pub free : IsFree asks shown over
    pub handed : IsKnownBy over.proof handover ⊎ IsHandedOver handover

  -- .. to the committee of the file
  pub record IsOfFile (asks : Bool) (shown : Option Showing) (over : Over) (handover : Header) : Type 0 where
    pub at : IsAtHandover asks shown over handover
    pub names : handover.payload ≡ handover_payload over.file

  -- .. and some desk gave up on all views, behind which the word was said
  pub record IsGoneOver (asks : Bool) (tells : Telling) (shown : Option Showing) (over : Over) (handover : Header) : Type 0 where
    pub of : IsOfFile asks shown over handover
    pub given_up : SomeMove (TimesOut MOST_VIEW)
    pub said : tells.over (header_id handover) over.file

  -- what comes of it: from this chain, or, where it names another, what was said before
  abbrev pub IsCrossingOf : Bool → Telling → Option Showing → Over → Crossing → Type 0
  IsCrossingOf asks tells shown over (crossing.Gone chain) =
      (chain ≡ chain_id_of over.file)
      × (over.chain ≡ chain_id_of committee → (handover : Header) × IsGoneOver asks tells shown over handover)
  IsCrossingOf asks tells shown over crossing.NoCommit =
      (over.chain ≡ chain_id_of committee) × IsFree asks shown over × (over.proof ≡ None) × ((commit : Option Ballot) × IsNoneHandedOver commit)
  IsCrossingOf asks tells shown over (crossing.Unproved unproved) =
      (over.chain ≡ chain_id_of committee) × IsFree asks shown over × IsUnprovedBy over.proof unproved
  IsCrossingOf asks tells shown over (crossing.OtherFile payload) =
      (payload ≢ handover_payload over.file)
      × (over.chain ≡ chain_id_of committee → (handover : Header) × IsKnownAt asks shown over handover × (payload ≡ handover.payload))
  IsCrossingOf asks tells shown over (crossing.Refused fault) =
      over.chain ≡ chain_id_of committee → (handover : Header) × IsOfFile asks shown over handover
  IsCrossingOf asks tells shown over (crossing.Desk refusal) =
      (refusal ≡ desk.Stopped) × ((handover : Header) × IsOfFile asks shown over handover)
  IsCrossingOf asks tells shown over (crossing.Halted halted) = (over.chain ≡ chain_id_of committee) × IsHeldBack asks shown over halted
  IsCrossingOf asks tells shown over crossing.Elsewhere = over.chain ≢ chain_id_of committee

  abbrev pub IsOverTold : Bool → Telling → Option Showing → Over → Response → Type 0
  IsOverTold asks tells shown over response = (it : Crossing) × IsCrossingOf asks tells shown over it × IsCrossingTold it response

  -- ---- a call

  -- what a call is told of a caller who has these receipts, and was shown so much, and the outcome among it; several blocks are told as
  -- is said below
  abbrev pub IsCallTold : Rules → Bool → Telling → List Receipt → Option Showing → Call → Option Told → Response → Type 0
  IsCallTold rules asks tells receipts shown (call.Replica asked) told response =
      IsOutcomeOf rules.furthest asks tells receipts asked told × IsOutcomeTold (block_asked asked) told response
  IsCallTold rules asks tells receipts shown (call.Blocks blocks) told response = ⊥
  IsCallTold rules asks tells receipts shown (call.Judge vote) told response = (told ≡ None) × IsVoteJudged asks shown vote response
  IsCallTold rules asks tells receipts shown (call.Certificate read) told response = (told ≡ None) × IsCertificateTold committee read response
  IsCallTold rules asks tells receipts shown (call.Over over) told response = (told ≡ None) × IsOverTold asks tells shown over response
  IsCallTold rules asks tells receipts shown (call.VoteIn view) told response = (told ≡ None) × IsVoteTold view response
  IsCallTold rules asks tells receipts shown (call.Header id) told response = (told ≡ None) × IsHeaderTold id response
  IsCallTold rules asks tells receipts shown (call.Successor payload) told response = (told ≡ None) × IsSuccessorTold committee tells payload response
  IsCallTold rules asks tells receipts shown call.Endorse told response = (told ≡ None) × IsEndorsementTold asks tells shown response
  IsCallTold rules asks tells receipts shown (call.Renew it) told response = (told ≡ None) × IsRenewalTold committee tells it response
  IsCallTold rules asks tells receipts shown (call.Log part) told response = (told ≡ None) × IsPartTold part response
  IsCallTold rules asks tells receipts shown call.Status told response = (told ≡ None) × IsDeskStatusTold asks tells shown response
  IsCallTold rules asks tells receipts shown call.Live told response = (told ≡ None) × IsLine 200 (codes "ok\n") response
  IsCallTold rules asks tells receipts shown call.Health told response = (told ≡ None) × IsDeskHealthTold asks shown response
  IsCallTold rules asks tells receipts shown call.Metrics told response = (told ≡ None) × IsDeskMetricsTold asks tells shown response
  IsCallTold rules asks tells receipts shown (call.Refused refusal) told response = (told ≡ None) × IsRefusalTold refusal response

  -- the response tells what the call is told, and the receipt of a new vote is added to the session; who was shown before that the
  -- log was put back is told so, and stays shown, and who is told so is shown from then on
  pub record IsCallServed (rules : Rules) (asks : Bool) (tells : Telling) (asked : Call) (before : List Receipt) (shown : Option Showing) (response : Response) (after : List Receipt) (shown_after : Option Showing) (told : Option Told) : Type 0 where
    pub answers : IsCallTold rules asks tells before shown asked told response
    pub receipts : after ≡ receipts_told before told
    pub stops : IsSome shown → IsStopped asked told
    pub keeps : IsSome shown → IsSome shown_after
    pub learns : IsStopTo told → IsSome shown_after

  -- one of several blocks is told so, as by a call of its own; this holds of what is told besides
  pub record IsBlockServed (Also : Option Told → Type 0) (rules : Rules) (asks : Bool) (tells : Telling) (block : List ℕ) (before : List Receipt) (shown : Option Showing) (response : Response) (after : List Receipt) (shown_after : Option Showing) (told : Option Told) : Type 0 where
    pub asked : Asked
    pub reads : IsOfBlock block asked
    pub served : IsCallServed rules asks tells (call.Replica asked) before shown response after shown_after told
    pub also : Also told

  -- no further block is delivered: the answer is that of the last with the lines of those before it
  pub record IsEnded (lines : List ℕ) (one : Response) (last : Option Told) (before : List Receipt) (shown : Option Showing) (response : Response) (after : List Receipt) (shown_after : Option Showing) (told : Option Told) : Type 0 where
    pub answer : IsPutBehind lines one response
    pub of : told ≡ last
    pub receipts : after ≡ before
    pub shows : shown_after ≡ shown

  -- no further block is delivered, for want of memory
  pub record IsCutShort (before : List Receipt) (shown : Option Showing) (response : Response) (after : List Receipt) (shown_after : Option Showing) (told : Option Told) : Type 0 where
    pub answer : IsUnheld response
    pub of : told ≡ None
    pub receipts : after ≡ before
    pub shows : shown_after ≡ shown

  -- behind these lines, and one block that was told this, the others are told: each as by a call of its own, as long as the one before it
  -- was taken, and there is memory
  abbrev pub AreMoreServed : (Option Told → Type 0) → Rules → Bool → Telling → List ℕ → Response → Option Told → List (List ℕ) → List Receipt → Option Showing → Response → List Receipt → Option Showing → Option Told → Type 0
  AreMoreServed Also rules asks tells lines one last [] before shown response after shown_after told =
      IsEnded lines one last before shown response after shown_after told
  AreMoreServed Also rules asks tells lines one last (block ∷ blocks) before shown response after shown_after told =
      ((one.status ≢ 200) × IsEnded lines one last before shown response after shown_after told)
      ⊎ ((one.status ≡ 200)
      × (IsCutShort before shown response after shown_after told
      ⊎ ((next : Response) × (its : Option Told) × (between : List Receipt) × (shown_between : Option Showing)
      × IsBlockServed Also rules asks tells block before shown next between shown_between its
      × AreMoreServed Also rules asks tells (lines ++ one.body.items) next its blocks between shown_between response after shown_after told)))

  -- so several blocks are told, one after the other, up to the first that is refused; no body spells none
  abbrev pub AreBlocksServed : (Option Told → Type 0) → Rules → Bool → Telling → List (List ℕ) → List Receipt → Option Showing → Response → List Receipt → Option Showing → Option Told → Type 0
  AreBlocksServed Also rules asks tells [] before shown response after shown_after told =
      IsRefusalTold refused.Length response × (told ≡ None) × (after ≡ before) × (shown_after ≡ shown)
  AreBlocksServed Also rules asks tells (block ∷ blocks) before shown response after shown_after told =
      (one : Response) × (its : Option Told) × (between : List Receipt) × (shown_between : Option Showing)
      × IsBlockServed Also rules asks tells block before shown one between shown_between its
      × AreMoreServed Also rules asks tells [] one its blocks between shown_between response after shown_after told

  -- .. or any other call
  abbrev pub IsAllServed : Rules → Bool → Telling → Call → List Receipt → Option Showing → Response → List Receipt → Option Showing → Option Told → Type 0
  IsAllServed rules asks tells asked before shown response after shown_after told =
      ((blocks : List (List ℕ)) × (asked ≡ call.Blocks blocks) × AreBlocksServed AnyTold rules asks tells blocks before shown response after shown_after told)
      ⊎ IsCallServed rules asks tells asked before shown response after shown_after told

  -- .. to a request, by what it asks for
  pub record IsServed (rules : Rules) (asks : Bool) (tells : Telling) (before : List Receipt) (shown : Option Showing) (request : Request (List ℕ)) (response : Response) (after : List Receipt) (shown_after : Option Showing) : Type 0 where
    pub asked : Call
    pub reads : AsksFor rules committee request asked
    pub told : Option Told
    pub served : IsAllServed rules asks tells asked before shown response after shown_after told

  -- .. where the receipt of each new vote that is told, also of one among several blocks, is among these
  abbrev pub IsAllBacked : Rules → Bool → Telling → List Receipt → Call → List Receipt → Option Showing → Response → List Receipt → Option Showing → Option Told → Type 0
  IsAllBacked rules asks tells receipts asked before shown response after shown_after told =
      ((blocks : List (List ℕ)) × (asked ≡ call.Blocks blocks)
      × AreBlocksServed (λ t. IfSome t (HasItsReceipt receipts)) rules asks tells blocks before shown response after shown_after told)
      ⊎ (IsCallServed rules asks tells asked before shown response after shown_after told × IfSome told (HasItsReceipt receipts))

  -- the response tells what the request's call is told, and the receipt of each new vote is among these, as those are that the caller
  -- had. Who was shown before it that the log was put back is told so of each block and timeout, and who is told so is shown behind it
  pub record IsBacked (rules : Rules) (asks : Bool) (tells : Telling) (receipts : List Receipt) (shown : Option Showing) (exchanged : Exchanged) (shown_after : Option Showing) : Type 0 where
    pub asked : Call
    pub reads : AsksFor rules committee exchanged.0 asked
    pub told : Option Told
    pub before : List Receipt
    pub after : List Receipt
    pub answers : IsAllBacked rules asks tells receipts asked before shown exchanged.1 after shown_after told
    pub grown : ReceiptsGrow after receipts

  -- .. and so each of these calls, from what was shown before the first of them to what was behind the last
  abbrev pub AreBacked : Rules → Bool → Telling → List Receipt → Option Showing → List Exchanged → Option Showing → Type 0
  AreBacked rules asks tells receipts before [] after = before ≡ after
  AreBacked rules asks tells receipts before (c ∷ calls) after =
      (shown : Option Showing) × IsBacked rules asks tells receipts before c shown × AreBacked rules asks tells receipts shown calls after
