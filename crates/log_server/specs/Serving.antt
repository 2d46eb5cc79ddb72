-- One request that is answered. docs/FORMATS.md, 'Request'.
use Rattle.std.specs.Prelude.{ℕ, ◌≡◌, ◌≢◌, ◌<◌, ◌++◌, List, [], length, take, drop, Option, Some, IfSome, true, false, Result, Err, ⊤}
use Rattle.base_streams.specs.Counting.{HasFailed}
use Rattle.log_format.specs.Requests.{IsRequest, request_text}
use Rattle.log_format.specs.declared.request.FrameRequest.{FrameRequest}
use Rattle.vote_log.specs.Logs.{LogState}
use Rattle.vote_log.specs.LogExport.{frame_count}
use Rattle.log_server.specs.declared.error.ServeError.{ServeError}
use Rattle.log_server.specs.declared.error.ServeError.TheVariants.{Memory, Device, Sink, Source, BadRequest, Stopped}
use Rattle.log_server.specs.declared.filling.Filled.{Filled}
use Rattle.log_server.specs.declared.filling.Filled.TheVariants.{All, Part}

-- ---- what a feed gave, where it tells what it has left

-- it began with this request
abbrev pub IsRequestOf : Option (List ℕ) → FrameRequest → Type 0
IsRequestOf before r = IsRequest r × IfSome before (λ rest. (left : List ℕ) × (rest ≡ request_text r ++ left))

abbrev pub HasRequest : Option (List ℕ) → Type 0
HasRequest before = (r : FrameRequest) × IsRequestOf before r

-- the bytes begin with no request
abbrev pub HasNoRequest : List ℕ → Type 0
HasNoRequest rest = (r : FrameRequest) (left : List ℕ) → IsRequest r → rest ≢ request_text r ++ left

-- 12 bytes were taken of it, or all that it had
abbrev pub TookRequest : Option (List ℕ) → Option (List ℕ) → Type 0
TookRequest before after = IfSome before (λ rest. after ≡ Some (drop 12 rest))

-- fewer bytes than so many were taken
abbrev pub TookFirst : Option (List ℕ) → Option (List ℕ) → ℕ → Type 0
TookFirst before after most = IfSome before (λ rest. (n : ℕ) × (n < most) × (after ≡ Some (drop n rest)))

-- ---- refusals

-- the numbers that docs/REFUSALS.md gives them
abbrev pub serve_error_number : ServeError → ℕ
serve_error_number Memory = 1
serve_error_number Device = 2
serve_error_number Sink = 3
serve_error_number Source = 4
serve_error_number BadRequest = 5
serve_error_number Stopped = 6

-- why there is no request
abbrev pub IsReadRefusal : Option (List ℕ) → ServeError → Type 0
IsReadRefusal before Source = ⊤
IsReadRefusal before BadRequest = IfSome before HasNoRequest
IsReadRefusal before _ = ⊥

-- why there is no answer: the request comes first, then whether the log runs; the disk is asked only for frames
abbrev pub IsServeRefusal : {D : Type 0} → LogState D → Option (List ℕ) → ServeError → Type 0
IsServeRefusal log before Memory = (log.stopped ≡ false) × HasRequest before
IsServeRefusal log before Device = (log.stopped ≡ false) × ((r : FrameRequest) × IsRequestOf before r × (0 < frame_count (length log.steps) r.first r.most))
IsServeRefusal log before Sink = (log.stopped ≡ false) × HasRequest before
IsServeRefusal log before Source = ⊤
IsServeRefusal log before BadRequest = IfSome before HasNoRequest
IsServeRefusal log before Stopped = (log.stopped ≡ true) × HasRequest before

-- why an export is not sent, or not all of it
abbrev pub IsSendRefusal : {D : Type 0} → LogState D → FrameRequest → ServeError → Type 0
IsSendRefusal log r Memory = log.stopped ≡ false
IsSendRefusal log r Device = (log.stopped ≡ false) × (0 < frame_count (length log.steps) r.first r.most)
IsSendRefusal log r Sink = log.stopped ≡ false
IsSendRefusal log r Source = ⊥
IsSendRefusal log r BadRequest = ⊥
IsSendRefusal log r Stopped = log.stopped ≡ true

-- of a feed's count of failures: it stands still, but where the feed is blamed
abbrev pub BlamesFeed : {T : Type 0} → (feed feed_after : ℕ) → Result T ServeError → Type 0
BlamesFeed feed feed_after (Err Source) = HasFailed feed feed_after
BlamesFeed feed feed_after _ = feed_after ≡ feed

-- the same of the counts of the feed, the disk and the sink
abbrev pub BlamesOne : {T : Type 0} → (feed feed_after disk disk_after sink sink_after : ℕ) → Result T ServeError → Type 0
BlamesOne feed feed_after disk disk_after sink sink_after (Err Source) = HasFailed feed feed_after × (disk_after ≡ disk) × (sink_after ≡ sink)
BlamesOne feed feed_after disk disk_after sink sink_after (Err Device) = (feed_after ≡ feed) × HasFailed disk disk_after × (sink_after ≡ sink)
BlamesOne feed feed_after disk disk_after sink sink_after (Err Sink) = (feed_after ≡ feed) × (disk_after ≡ disk) × HasFailed sink sink_after
BlamesOne feed feed_after disk disk_after sink sink_after _ = (feed_after ≡ feed) × (disk_after ≡ disk) × (sink_after ≡ sink)

-- the same where no feed is read
abbrev pub BlamesSending : {T : Type 0} → (disk disk_after sink sink_after : ℕ) → Result T ServeError → Type 0
BlamesSending disk disk_after sink sink_after result = (feed feed_after : ℕ) → feed_after ≡ feed → BlamesOne feed feed_after disk disk_after sink sink_after result

-- ---- parts of this call

-- the feed gave these bytes
abbrev pub GaveBytes : Option (List ℕ) → Option (List ℕ) → List ℕ → Type 0
GaveBytes before after bytes = IfSome before (λ rest. (left : List ℕ) × (after ≡ Some left) × (rest ≡ bytes ++ left))

-- it gave all of a buffer, or fewer bytes, its last
abbrev pub IsFeedFilled : Option (List ℕ) → Option (List ℕ) → List ℕ → Filled → Type 0
IsFeedFilled before after buffer All = GaveBytes before after buffer
IsFeedFilled before after buffer (Part n) = (n < length buffer) × IfSome before (λ rest. (rest ≡ take n buffer) × (after ≡ Some []))
