-- A desk whose log was read, and not written.
use Rattle.std.proofs.Common.{◌≡◌, ℕ, List, Option, IfSome, Result, Ok, Err, IfOk, OnOk, false, length, refl, subst, sym, ◌∙◌}
use Rattle.blocks.specs.Replica.{Stored}
use Rattle.base_streams.specs.Counting.{HasFailed}
use Rattle.base_streams.specs.Streams.{Wrote}
use Rattle.stable_log.specs.Crash.{Unwritten}
use Rattle.stable_log.proofs.Told.{some_if, if_some}
use Rattle.vote_log.specs.LogExport.{Blames, export_of, frame_count}
use Rattle.vote_log.specs.Logs.{LogState}
use Rattle.vote_log.specs.declared.export_error.ExportError.{ExportError}
use Rattle.vote_log.specs.declared.export_error.ExportError.TheVariants.{Device}
use Rattle.vote_desk.specs.Desks.{DeskView, KeepsDesk, KeepsEntries}
use Rattle.vote_desk.specs.Exports.{IsOut}

-- a log of which only the disk moved
pub moved_log : {D : Type 0} (old log : LogState D) → log.entries ≡ old.entries → log.steps ≡ old.steps → log.stopped ≡ old.stopped → log.genesis ≡ old.genesis
    → log ≡ record old { disk = log.disk }
moved_log {D} old log entries_are steps_are stopped_is genesis_is =
    let moved : LogState D = record old { disk = log.disk } in
    let parts : LogState D = record { disk = log.disk; genesis = log.genesis; entries = log.entries; steps = log.steps; stopped = log.stopped } in
    let same : parts ≡ moved = rw (genesis_is, entries_are, steps_are, stopped_is) refl in
    same

module _ {D : Type 0} (bytes : D → Option (List ℕ)) (images : D → List ℕ → Type 0) (moment : D → ℕ) (images_since : D → ℕ → List ℕ → Type 0)
    (committee : List ℕ) (replica : ℕ) (opening : List Stored) (old : DeskView D) (log : LogState D)
    (keeps : KeepsDesk bytes images committee replica opening old) (unwritten : Unwritten bytes images moment images_since old.log.disk log.disk) where
  abbrev moved : LogState D
  moved = record old.log { disk = log.disk }

  moved_entries : KeepsEntries (images old.log.disk) opening old.core.headers old.indices.mark old.log → KeepsEntries (images log.disk) opening old.core.headers old.indices.mark moved
  moved_entries k = record {
    listed = k.listed;
    indices_rise = k.indices_rise;
    images_fit = λ image i. k.images_fit image (unwritten.no_new image i);
    durable = λ runs image i. k.durable runs image (unwritten.no_new image i);
  }

  -- it keeps what it kept
  pub keeps_read : log ≡ moved → KeepsDesk bytes images committee replica opening (record old { log = log })
  keeps_read is =
      subst (λ (l : LogState D). KeepsDesk bytes images committee replica opening (record old { log = l })) (sym is)
      (record {
        keys = keeps.keys;
        genesis = keeps.genesis;
        list = keeps.list;
        entries = some_if (bytes log.disk) (λ _. KeepsEntries (images log.disk) opening old.core.headers old.indices.mark moved)
            (λ bs told. moved_entries
            (if_some (bytes old.log.disk) (λ _. KeepsEntries (images old.log.disk) opening old.core.headers old.indices.mark old.log) bs keeps.entries (sym unwritten.same ∙ told)));
      })

-- what went out
pub out_of : {D : Type 0} (bytes : D → Option (List ℕ)) (log : LogState D) (first most : ℕ) (before after : Option (List ℕ)) (r : Result ℕ ExportError)
    → OnOk r (IfSome (bytes log.disk) (λ _. Wrote before after (export_of log.entries first most)))
    → IfOk r (λ n. n ≡ frame_count (length log.steps) first most) → OnOk r (log.stopped ≡ false)
    → IfOk r (IsOut bytes log first most before after)
out_of bytes log first most before after (Ok n) wrote count runs = record { runs = runs; count = count; wrote = wrote }
out_of bytes log first most before after (Err e) wrote count runs = tt

-- a disk that is blamed failed
pub blamed : (disk disk_after sink sink_after : ℕ) (e : ExportError) (r : Result ℕ ExportError) → r ≡ Err e → Blames disk disk_after sink sink_after r → e ≡ Device → HasFailed disk disk_after
blamed disk disk_after sink sink_after e r is blames device =
    let here : Blames {T = ℕ} disk disk_after sink sink_after (Err Device) = subst (λ (x : ExportError). Blames {T = ℕ} disk disk_after sink sink_after (Err x)) device (subst (λ (x : Result ℕ ExportError). Blames disk disk_after sink sink_after x) is blames) in
    here.0
