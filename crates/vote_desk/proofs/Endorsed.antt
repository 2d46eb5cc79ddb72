-- A statement that the replica signs.
use Rattle.std.proofs.Common.{◌≡◌, ℕ, List, IfSome, Result, Ok, Err, IfOk, IfErr, OnOk, sym, subst}
use Rattle.stable_log.specs.declared.disk.Disk.{Ghosts}
use Rattle.vote_log.specs.Logs.{LeavesEntries, LogState}
use Rattle.vote_desk.specs.declared.desk_error.DeskError.{DeskError}
use Rattle.vote_desk.specs.declared.seal.Seal.{Seal}
use Rattle.vote_desk.specs.Deliveries.{BoundsIndices, FailsNone, RunsOn}
use Rattle.vote_desk.specs.DeskRefusals.{IsRunning}
use Rattle.vote_desk.specs.Desks.{DeskView}
use Rattle.vote_desk.specs.Endorsing.{Endorses, IsEndorseRefusal, IsEndorsed, IsLeftUnsigned, MayEndorse, RefusesToEndorse}

module _ {D : Type 0} (disk : Ghosts D) (old new : DeskView D) where
  -- it runs on
  pub runs_signed : (r : Result Seal DeskError) → OnOk r (MayEndorse old) → OnOk r (IsRunning new) → OnOk r (FailsNone disk.failed old new) → new.log ≡ old.log
      → (IsRunning old → IfSome (disk.bytes old.log.disk) (λ _. LeavesEntries (disk.images old.log.disk) old.log.entries)) → OnOk r (RunsOn disk old new)
  runs_signed (Ok s) may running none is leaves = record {
    running = running;
    no_failure = none;
    durable = subst (λ (l : LogState D). IfSome (disk.bytes old.log.disk) (λ _. LeavesEntries (disk.images l.disk) l.entries)) (sym is) (leaves may.running);
  }
  runs_signed (Err e) may running none is leaves = tt

  -- ---- under a lock

  pub endorses : (committee : List ℕ) (replica : ℕ) (statement : List ℕ) (r : Result Seal DeskError) → OnOk r (MayEndorse old) → IfOk r (λ s. IsEndorsed committee replica statement s old new) → OnOk r (RunsOn disk old new)
      → IfSome (disk.bytes old.indices.disk) (λ _. BoundsIndices disk old.indices new.indices) → IfOk r (λ s. Endorses disk committee replica statement s old new)
  endorses committee replica statement (Ok s) may is runs bounds = record { may = may; endorsed = is; runs_on = runs; not_again = bounds }
  endorses committee replica statement (Err e) may is runs bounds = tt

  pub refuses_to_endorse : (r : Result Seal DeskError) → IfErr r (IsEndorseRefusal old) → IfErr r (IsLeftUnsigned disk.failed old new)
      → IfSome (disk.bytes old.indices.disk) (λ _. BoundsIndices disk old.indices new.indices) → IfErr r (λ e. RefusesToEndorse disk e old new)
  refuses_to_endorse (Ok s) refused left bounds = tt
  refuses_to_endorse (Err e) refused left bounds = record { refused = refused; left = left; not_again = bounds }
