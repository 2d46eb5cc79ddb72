-- What a stream sends to a server that is asked for the log of one chain.
use Rattle.std.specs.Prelude.{ℕ, zero, suc, ◌≡◌, ◌≢◌, ◌++◌, Bool, true, false, List, [], Option, None, Some, Result, codes, drop, length, nat_eq, if◌then◌else◌}
use Rattle.std.specs.List.{starts_with}
use Rattle.std.specs.Io.KnownBytes.{ReadConsumes}
use Rattle.std.specs.declared.io.Error.{Error}
use Rattle.log_request.specs.declared.stream.Stage.{Stage}
use Rattle.log_request.specs.declared.stream.Stage.TheVariants.{Waiting, Named, Unnamed}
use Rattle.log_request.specs.declared.stream.Connection.{Connection}
use Rattle.log_request.specs.Closings.{GaveNothing}

-- the 12 bytes that ask for the same as 44 that name this chain
abbrev pub unnamed : List ℕ → List ℕ → Option (List ℕ)
unnamed chain text = if starts_with nat_eq text (codes "HSL2" ++ chain) then Some (codes "HSL1" ++ drop 36 text) else None

abbrev pub unnamed_of : List ℕ → Option (List ℕ) → Option (List ℕ)
unnamed_of chain None = None
unnamed_of chain (Some text) = unnamed chain text

-- what was written to a stream, by what it sent to the server, if the server's streams tell that: nothing while it sent nothing
abbrev pub written_to : {S : Type 0} → Bool → (S → Option (List ℕ)) → List ℕ → Option (Connection S) → Option (List ℕ)
written_to false contents chain connection = None
written_to true contents chain None = Some []
written_to true contents chain (Some o) = unnamed_of chain (contents o.stream)

-- what a stream has left: it is known once a byte came, or the server was asked again
abbrev pub left_at : Stage → Option (List ℕ) → Option (List ℕ)
left_at Waiting left = None
left_at Named left = left
left_at Unnamed left = left

abbrev pub left_in : {S : Type 0} → (S → Option (List ℕ)) → Option (Connection S) → Option (List ℕ)
left_in remaining None = None
left_in remaining (Some o) = left_at o.stage (remaining o.stream)

-- how far a server is that gave so many bytes more
abbrev pub stage_behind : Stage → ℕ → Stage
stage_behind Unnamed count = Unnamed
stage_behind Named count = Named
stage_behind Waiting zero = Waiting
stage_behind Waiting (suc count) = Named

-- a read gave what the stream gave, unless the server was asked again in it
abbrev pub HandsOn : {S : Type 0} → (S → Option (List ℕ)) → (old new : Connection S) → Result ℕ Error → List ℕ → Type 0
HandsOn remaining old new outcome buffer = (new.stage ≡ Unnamed → old.stage ≡ Unnamed) → ReadConsumes (remaining old.stream) (remaining new.stream) outcome buffer

-- the server gave nothing to the request that names the chain, into so much room, and closed the connection or broke it off
pub record GaveNoByte {S : Type 0} (remaining : S → Option (List ℕ)) (old : Connection S) (room : ℕ) : Type 0 where
  pub waiting : old.stage ≡ Waiting
  pub left : S
  pub outcome : Result ℕ Error
  pub buffer : List ℕ
  pub size : length buffer ≡ room
  pub read : ReadConsumes (remaining old.stream) (remaining left) outcome buffer
  pub nothing : GaveNothing outcome room

-- if a server is asked again, that is why
abbrev pub AsksAgain : {S : Type 0} → (S → Option (List ℕ)) → (old new : Connection S) → ℕ → Type 0
AsksAgain remaining old new room = old.stage ≢ Unnamed → new.stage ≡ Unnamed → GaveNoByte remaining old room
