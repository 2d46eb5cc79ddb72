-- What a log answers to requests.
use Rattle.std.specs.Prelude.{ℕ, ◌≡◌, ◌⊎◌, ◌≤◌, ◌<◌, List, length, Option, IfSome, Bool, true, false, Result, Ok, Err, ⊤}
use Rattle.std.specs.List.{All}
use Rattle.log_request.specs.declared.asking.TheConstants.{NO_LOG}
use Rattle.log_request.specs.declared.asking.Asked.TheVariants.{Frames, OtherChain}
use Rattle.log_format.specs.declared.request.FrameRequest.{FrameRequest}
use Rattle.vote_log.specs.Logs.{LogState}
use Rattle.vote_log.specs.LogExport.{export_of, frame_count}
use Rattle.base_streams.specs.Streams.{Wrote, WrotePart}
use Rattle.base_streams.specs.declared.feed.Feed.{Ghosts as FeedGhosts}
use Rattle.base_streams.specs.declared.sink.Sink.{Ghosts as SinkGhosts}
use Rattle.stable_log.specs.declared.disk.Disk.{Ghosts as DiskGhosts}
use Rattle.log_server.specs.Serving.{BlamesOne}
use Rattle.log_server.specs.Replies.{AsksForFrames, AsksNothing, AsksSomething, IsAskedOf, chain_of}
use Rattle.log_server.specs.declared.error.ServeError.{ServeError}
use Rattle.log_server.specs.declared.error.ServeError.TheVariants.{Memory, Device, Sink, Source, BadRequest, Stopped}
use Rattle.log_server.specs.declared.reply.Reply.{Reply}
use Rattle.log_server.specs.declared.reply.Reply.TheVariants.{Frames as Sent, NoLog}
use Rattle.log_server.specs.ServedLines.{served_lines}

-- why there is no answer: the request comes first, then whether the log runs; the disk is asked only for frames
abbrev pub IsReplyRefusal : {D : Type 0} → LogState D → Option (List ℕ) → ServeError → Type 0
IsReplyRefusal log before Memory = (log.stopped ≡ false) × AsksForFrames (chain_of log) before
IsReplyRefusal log before Device = (log.stopped ≡ false)
    × ((r : FrameRequest) × IsAskedOf (chain_of log) before (Frames r) × (0 < frame_count (length log.steps) r.first r.most))
IsReplyRefusal log before Sink = (log.stopped ≡ false) × AsksSomething (chain_of log) before
IsReplyRefusal log before Source = ⊤
IsReplyRefusal log before BadRequest = IfSome before (AsksNothing (chain_of log))
IsReplyRefusal log before Stopped = (log.stopped ≡ true) × AsksSomething (chain_of log) before

-- a first part of the export that was asked for, where the disk tells its bytes
abbrev pub HasPart : {D : Type 0} → LogState D → (rest disk sink sink_after : Option (List ℕ)) → Type 0
HasPart log rest disk sink sink_after = (r : FrameRequest) × IsAskedOf (chain_of log) rest (Frames r)
    × IfSome disk (λ _. WrotePart sink sink_after (export_of log.entries r.first r.most))

-- what a refusal leaves in the sink: of a disk or a sink that failed, a first part of the answer; else nothing
abbrev pub LeavesInSink : {D : Type 0} → LogState D → (rest disk sink sink_after : Option (List ℕ)) → ServeError → Type 0
LeavesInSink log rest disk sink sink_after Device = HasPart log rest disk sink sink_after
LeavesInSink log rest disk sink sink_after Sink =
    HasPart log rest disk sink sink_after ⊎ (IsAskedOf (chain_of log) rest OtherChain × WrotePart sink sink_after NO_LOG)
LeavesInSink log rest disk sink sink_after _ = sink_after ≡ sink

-- the answer to what a feed has left: so many frames, whose export stands in the sink where the disk tells its bytes; to a request
-- that names another chain the eight bytes that say so; or why there is none
abbrev pub IsAnswer : {D : Type 0} → LogState D → (rest disk sink sink_after : Option (List ℕ)) → Result Reply ServeError → Type 0
IsAnswer log rest disk sink sink_after (Ok (Sent frames)) = (log.stopped ≡ false)
    × ((r : FrameRequest) × IsAskedOf (chain_of log) rest (Frames r) × (frames ≡ frame_count (length log.steps) r.first r.most)
    × IfSome disk (λ _. Wrote sink sink_after (export_of log.entries r.first r.most)))
IsAnswer log rest disk sink sink_after (Ok NoLog) = (log.stopped ≡ false) × IsAskedOf (chain_of log) rest OtherChain × Wrote sink sink_after NO_LOG
IsAnswer log rest disk sink sink_after (Err error) = IsReplyRefusal log rest error × LeavesInSink log rest disk sink sink_after error

-- what came of a request: its answer, and which of the three is blamed where there is none
pub record IsAnswered {D R W : Type 0} (disk : DiskGhosts D) (feed : FeedGhosts R) (sink : SinkGhosts W) (log log' : LogState D) (from from' : R) (to to' : W) (served : Result Reply ServeError) : Type 0 where
  pub answer : IsAnswer log (feed.rest from) (disk.bytes log.disk) (sink.text to) (sink.text to') served
  pub blame : BlamesOne (feed.failed from) (feed.failed from') (disk.failed log.disk) (disk.failed log'.disk) (sink.failed to) (sink.failed to') served

-- an answer to some bytes or other: frames of at most so many entries, or that it is of another chain, where the log runs, and that
-- it is stopped only where it is
abbrev pub MayAnswer : (stopped : Bool) → (entries : ℕ) → Result Reply ServeError → Type 0
MayAnswer stopped entries (Ok (Sent frames)) = (stopped ≡ false) × (frames ≤ entries)
MayAnswer stopped entries (Ok NoLog) = stopped ≡ false
MayAnswer stopped entries (Err Memory) = stopped ≡ false
MayAnswer stopped entries (Err Device) = stopped ≡ false
MayAnswer stopped entries (Err Sink) = stopped ≡ false
MayAnswer stopped entries (Err Source) = ⊤
MayAnswer stopped entries (Err BadRequest) = ⊤
MayAnswer stopped entries (Err Stopped) = stopped ≡ true

-- so many requests were answered, and a line was printed for each
pub record IsServed (stopped : Bool) (entries requests : ℕ) (before after : Option (List ℕ)) : Type 0 where
  pub answers : List (Result Reply ServeError)
  pub as_many : length answers ≡ requests
  pub each : All (MayAnswer stopped entries) answers
  pub printed : Wrote before after (served_lines answers)
