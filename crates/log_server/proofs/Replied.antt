-- Who is blamed for what was not answered.
use Rattle.std.proofs.Common.{ℕ}
use Rattle.std.specs.Prelude.{Err}
use Rattle.log_server.specs.Serving.{BlamesOne}
use Rattle.log_server.specs.declared.error.ServeError.{ServeError}
use Rattle.log_server.specs.declared.error.ServeError.TheVariants.{Memory, Device, Sink, Source, BadRequest, Stopped}

-- the same, whatever an answer would have been
pub blames_again : (S T : Type 0) (feed feed_after disk disk_after sink sink_after : ℕ) (e : ServeError)
    → BlamesOne {T = S} feed feed_after disk disk_after sink sink_after (Err e) → BlamesOne {T = T} feed feed_after disk disk_after sink sink_after (Err e)
blames_again S T feed feed_after disk disk_after sink sink_after Memory is = is
blames_again S T feed feed_after disk disk_after sink sink_after Device is = is
blames_again S T feed feed_after disk disk_after sink sink_after Sink is = is
blames_again S T feed feed_after disk disk_after sink sink_after Source is = is
blames_again S T feed feed_after disk disk_after sink sink_after BadRequest is = is
blames_again S T feed feed_after disk disk_after sink sink_after Stopped is = is
