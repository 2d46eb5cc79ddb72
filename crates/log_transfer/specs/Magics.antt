-- Streams that end at their magic.
use Rattle.std.specs.Prelude.{ℕ, []}
use Rattle.log_format.specs.Readings.{IsReading}
use Rattle.log_format.specs.declared.status.Status.{Status}
use Rattle.log_transfer.specs.Connections.{Connection}

-- a connection that gives no frame, with this status
pub record EndsAtMagic (old : Connection → Type 0) (status : Status) : Type 0 where
  pub c : Connection
  pub may : old c
  pub reading : (held : ℕ) → IsReading held c.text c.fails [] status
