-- What a desk hands out of its log while it votes. docs/FORMATS.md, 'Export'.
use Rattle.std.specs.Prelude.{◌≡◌, ℕ, List, Option, IfSome, false, length}
use Rattle.stable_log.specs.Devices.{Untouched}
use Rattle.stable_log.specs.declared.disk.Disk.{Ghosts}
use Rattle.base_streams.specs.Counting.{HasFailed}
use Rattle.base_streams.specs.Streams.{Wrote}
use Rattle.vote_log.specs.LogExport.{IsExportRefusal, export_of, frame_count}
use Rattle.vote_log.specs.Logs.{LogState}
use Rattle.vote_log.specs.declared.export_error.ExportError.{ExportError}
use Rattle.vote_log.specs.declared.export_error.ExportError.TheVariants.{Device}
use Rattle.vote_desk.specs.Desks.{DeskView}

-- nothing was changed, and the log's disk was only read
pub record IsOnlyRead {D : Type 0} (disk : Ghosts D) (old new : DeskView D) : Type 0 where
  pub same : new ≡ record old { log = record old.log { disk = new.log.disk } }
  pub untouched : Untouched disk old.log.disk new.log.disk

-- what goes out of a log that runs: so many frames of the entries from the first on, and where the log's disk tells its
-- bytes just their stream
pub record IsOut {D : Type 0} (bytes : D → Option (List ℕ)) (log : LogState D) (first most : ℕ) (before after : Option (List ℕ)) (frames : ℕ) : Type 0 where
  pub runs : log.stopped ≡ false
  pub count : frames ≡ frame_count (length log.steps) first most
  pub wrote : IfSome (bytes log.disk) (λ _. Wrote before after (export_of log.entries first most))

-- a desk refuses so, is only read, and `Device` has a cause
pub record RefusesExport {D : Type 0} (disk : Ghosts D) (first most : ℕ) (e : ExportError) (old new : DeskView D) : Type 0 where
  pub refused : IsExportRefusal old.log first most e
  pub read : IsOnlyRead disk old new
  pub cause : e ≡ Device → HasFailed (disk.failed old.log.disk) (disk.failed new.log.disk)
