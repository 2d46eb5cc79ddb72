-- What the steps of a reader give.
use Rattle.std.specs.Prelude.{ℕ, ◌≡◌, ◌<◌, ◌+◌, List, [], ◌∷◌, take, codes, Bool, true, Option, Some, None}
use Rattle.std.specs.Bool.{MatchBool}
use Rattle.base_wire.specs.Payloads.{IsPayload}
use Rattle.log_format.specs.declared.status.Status.{Status}
use Rattle.log_transfer.specs.Connections.{Connection}
use Rattle.log_transfer.specs.Streams.{GaveAll}
use Rattle.log_transfer.specs.Magics.{EndsAtMagic}
use Rattle.log_transfer.specs.Places.{IsEnd, Leads, work}
use Rattle.log_transfer.specs.declared.reader_state.ReaderState.{ReaderState}
use Rattle.log_transfer.specs.declared.steps.Turn.{Turn}
use Rattle.log_transfer.specs.declared.steps.Turn.TheVariants.{Frame, On, Done}

-- a connection that was opened is read on behind its magic, or ended there
abbrev pub IsEntered : (old new : Connection → Type 0) → Bool → ℕ → Status → Type 0
IsEntered old new shown count last = MatchBool shown ((count ≡ 0) × GaveAll old new (codes "HSL1")) (EndsAtMagic old last)

-- one more frame, of a connection that is open
abbrev pub OneMore : (old new : ℕ → ℕ → ℕ → Connection → Type 0) (old_left new_left : Connection → Type 0) (p q : ReaderState) → List ℕ → Type 0
OneMore old new old_left new_left p q x = IsPayload x × (q.held ≡ p.held + 1) × Leads old new old_left new_left p q (x ∷ []) × (q.is_open ≡ true)

abbrev pub NoMore : (old new : ℕ → ℕ → ℕ → Connection → Type 0) (old_left new_left : Connection → Type 0) (p q : ReaderState) → Type 0
NoMore old new old_left new_left p q = (q.held ≡ p.held) × Leads old new old_left new_left p q []

abbrev pub IsTurn : (old new : ℕ → ℕ → ℕ → Connection → Type 0) (old_left new_left : Connection → Type 0) (p q : ReaderState) → List ℕ → Turn → Type 0
IsTurn old new old_left new_left p q buffer (Frame n) = OneMore old new old_left new_left p q (take n buffer)
IsTurn old new old_left new_left p q buffer On = (work q < work p) × NoMore old new old_left new_left p q
IsTurn old new old_left new_left p q buffer Done = IsEnd q × NoMore old new old_left new_left p q

abbrev pub IsAdvanced : (old new : ℕ → ℕ → ℕ → Connection → Type 0) (old_left new_left : Connection → Type 0) (p q : ReaderState) → List ℕ → Option ℕ → Type 0
IsAdvanced old new old_left new_left p q buffer None = IsEnd q × NoMore old new old_left new_left p q
IsAdvanced old new old_left new_left p q buffer (Some n) = OneMore old new old_left new_left p q (take n buffer)
