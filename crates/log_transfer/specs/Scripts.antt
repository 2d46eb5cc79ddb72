-- A source in memory.
use Rattle.std.specs.Prelude.{ℕ, Bool, Option, Some, None, ◌≡◌, List, [], slice_index_or}
use Rattle.std.specs.List.{All}
use Rattle.base_wire.specs.Pieces.{AreBytes}
use Rattle.std.proofs.Common.{refl, sym}
use Rattle.std.proofs.lemmas.List.{append-nil}
use Rattle.log_transfer.specs.Connections.{Connection, GivesFirst, failing}

-- the streams of the connections to come, what the open one has left, how many bytes were read of it, the requests that
-- were made, failures, and the fuse that is set
pub record Script : Type 0 where
  pub later : List Connection
  pub current : Connection
  pub taken : ℕ
  pub requests : List (List ℕ)
  pub failures : ℕ
  pub fuse : Option (ℕ × Bool)

-- what is given of a stream: the whole, or with a fuse perhaps a first part of it
abbrev pub GivesOf : Option (ℕ × Bool) → Connection → Connection → Type 0
GivesOf None stream c = c ≡ stream
GivesOf (Some fuse) stream c = GivesFirst stream c

-- the stream of the k-th connection from here on; past the last a connect fails
abbrev pub stream_at : List Connection → ℕ → Connection
stream_at later k = slice_index_or later k failing

-- all of these streams are bytes
abbrev pub IsText : Connection → Type 0
IsText c = AreBytes c.text

pub record IsScript (later : List Connection) (current : Connection) : Type 0 where
  pub all : All IsText later
  pub open_one : AreBytes current.text

-- it may give all of a stream
pub gives_all : (fuse : Option (ℕ × Bool)) (stream : Connection) → GivesOf fuse stream stream
gives_all None stream = refl
gives_all (Some fuse) stream = record { lost = []; part = sym (append-nil stream.text); whole = λ e. refl }
