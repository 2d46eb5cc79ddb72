-- What a feed asks of a server that has the log of one chain. docs/FORMATS.md, 'Request for a chain'.
use Rattle.std.specs.Prelude.{ℕ, ◌≡◌, ◌≢◌, ◌++◌, List, drop, Option, Some, IfSome, ⊤}
use Rattle.log_request.specs.ChainRequests.{IsAskedIn}
use Rattle.log_request.specs.Gathering.{first_request, request_len}
use Rattle.log_request.specs.declared.asking.Asked.{Asked}
use Rattle.log_request.specs.declared.asking.Asked.TheVariants.{Frames}
use Rattle.log_format.specs.declared.request.FrameRequest.{FrameRequest}
use Rattle.vote_log.specs.Logs.{LogState}
use Rattle.blocks.specs.Headers.{header_id}
use Rattle.log_server.specs.declared.error.ServeError.{ServeError}
use Rattle.log_server.specs.declared.error.ServeError.TheVariants.{Source, BadRequest}

-- the chain of a log is named by the id of its genesis
abbrev pub chain_of : {D : Type 0} → LogState D → List ℕ
chain_of log = header_id log.genesis

-- ---- what a feed gave, where it tells what it has left

-- it began with a request that asks this of a server that has the log of this chain
abbrev pub IsAskedOf : List ℕ → Option (List ℕ) → Asked → Type 0
IsAskedOf chain before asked = IfSome before (λ rest. (bytes : List ℕ) × (left : List ℕ) × IsAskedIn chain bytes asked × (rest ≡ bytes ++ left))

-- frames of that log
abbrev pub AsksForFrames : List ℕ → Option (List ℕ) → Type 0
AsksForFrames chain before = (r : FrameRequest) × IsAskedOf chain before (Frames r)

-- something
abbrev pub AsksSomething : List ℕ → Option (List ℕ) → Type 0
AsksSomething chain before = (asked : Asked) × IsAskedOf chain before asked

-- the bytes begin with no request
abbrev pub AsksNothing : List ℕ → List ℕ → Type 0
AsksNothing chain rest = (asked : Asked) (bytes left : List ℕ) → IsAskedIn chain bytes asked → rest ≢ bytes ++ left

-- as many bytes were taken of it as a request has that begins so, or all that it had
abbrev pub TookAsked : Option (List ℕ) → Option (List ℕ) → Type 0
TookAsked before after = IfSome before (λ rest. after ≡ Some (drop (request_len rest) rest))

-- ---- refusals

-- why nothing is asked
abbrev pub IsAskedRefusal : List ℕ → Option (List ℕ) → ServeError → Type 0
IsAskedRefusal chain before Source = ⊤
IsAskedRefusal chain before BadRequest = IfSome before (AsksNothing chain)
IsAskedRefusal chain before _ = ⊥

-- ---- parts of this call

-- its first request was taken, or all that it had
abbrev pub Gathered : Option (List ℕ) → Option (List ℕ) → List ℕ → Type 0
Gathered before after request = IfSome before (λ rest. (request ≡ first_request rest) × (after ≡ Some (drop (request_len rest) rest)))
