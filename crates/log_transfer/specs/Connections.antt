-- What connections to a source give.
use Rattle.std.specs.Prelude.{ℕ, ◌≡◌, ◌+◌, ◌++◌, List, [], Bool, true, false, Option, None, Some, Result, IfOk, OnErr}
use Rattle.base_wire.specs.Pieces.{AreBytes}

-- the bytes of a connection, and whether the connect, or a read behind them, fails
pub record Connection : Type 0 where
  pub text : List ℕ
  pub fails : Bool

-- one that gives these bytes first
abbrev pub behind : List ℕ → Connection → Connection
behind bytes c = record { text = bytes ++ c.text; fails = c.fails }

-- one that ends here, and one that fails here
abbrev pub ended : Connection
ended = record { text = []; fails = false }

abbrev pub failing : Connection
failing = record { text = []; fails = true }

-- what is given of a stream: all of it, or a first part before something fails
pub record GivesFirst (stream given : Connection) : Type 0 where
  pub lost : List ℕ
  pub part : stream.text ≡ given.text ++ lost
  pub whole : given.fails ≡ false → given ≡ stream

-- one of bytes may be given
pub record GivesSome (may : Connection → Type 0) : Type 0 where
  pub c : Connection
  pub is : may c
  pub bytes : AreBytes c.text

-- how many bytes were read: more by those that a read gave
pub record CountsBytes {E : Type 0} (before after : ℕ) (outcome : Result ℕ E) : Type 0 where
  pub more : IfOk outcome (λ n. after ≡ before + n)
  pub same : OnErr outcome (after ≡ before)

-- how many were read of the open connection, if there is one
abbrev pub taken_of : {A : Type 0} → Option A → (A → ℕ) → ℕ
taken_of None count = 0
taken_of (Some a) count = count a

-- what was written to the open connection, if there is one that tells
abbrev pub sent_of : {A : Type 0} → Option A → (A → Option (List ℕ)) → Option (List ℕ)
sent_of None contents = None
sent_of (Some a) contents = contents a
