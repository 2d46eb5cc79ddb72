-- How a signer ends, and what it has printed by then.
use Rattle.std.specs.Prelude.{◌≡◌, ℕ, List, ◌++◌, Option, Some, length, if◌then◌else◌, ◌||◌}
use Rattle.std.specs.Borrow.{Bor}
use Rattle.stable_log.specs.declared.disk.Disk.{Ghosts}
use Rattle.base_streams.specs.Streams.{Wrote, WrotePart}
use Rattle.program_parts.specs.declared.program_fault.ProgramFault.{ProgramFault}
use Rattle.program_parts.specs.declared.program_fault.ProgramFault.TheVariants as program
use Rattle.replica_command.specs.declared.fault.ReplicaFile.TheVariants.{DiskFailed as FailedInFolder, PutBack}
use Rattle.vote_desk.specs.Receipts.{AreReceipts}
use Rattle.vote_desk.specs.declared.parts.Closed.{Closed}
use Rattle.signer_command.specs.Lines.{Places, closed_line, listening_text}
use Rattle.signer_command.specs.declared.announcing.Announced.{Announced}
use Rattle.signer_command.specs.declared.announcing.Announced.TheVariants.{NotBegun, Over, Unsaid}
use Rattle.signer_command.specs.declared.fault.SignerFault.{SignerFault}
use Rattle.signer_command.specs.declared.fault.SignerFault.TheVariants.{DiskFailed, Endless, FileIn, Lineage, Receipts, Store, Threads}
use Rattle.signer_command.specs.declared.marks.MarkAt.{MarkAt}
use Rattle.signer_command.specs.declared.marks.MarkAt.TheVariants as mark
use Rattle.signer_command.specs.declared.program.Ended.{Ended}
use Rattle.signer_command.specs.declared.program.Ended.TheVariants.{Done, Stopped}
use Rattle.signer_command.specs.declared.staying.After.{After}
use Rattle.signer_command.specs.declared.staying.After.TheVariants as left
use Rattle.signer_command.specs.declared.words.Where.{Where}
use Rattle.signer_command.specs.declared.words.Where.TheVariants as asked

abbrev pub Fault : Type 0
Fault = ProgramFault SignerFault

-- ---- faults

-- some first part of a signer's lines was printed
pub record IsPart (before after : Option (List ℕ)) : Type 0 where
  pub places : Places
  pub count : ℕ
  pub wrote : WrotePart before after (listening_text places ++ closed_line count)

-- a fault that may come in a stay, so also behind one: of memory, threads, the stores, the receipts, or a folder or a disk
abbrev pub IsLate : Fault → Type 0
IsLate program.Memory = Unit {0}
IsLate (program.Own Receipts) = Unit {0}
IsLate (program.Own Threads) = Unit {0}
IsLate (program.Own (Store number)) = Unit {0}
IsLate (program.Own (FileIn folder it)) = Unit {0}
IsLate (program.Own (DiskFailed socket)) = Unit {0}
IsLate (program.Own (Lineage chain)) = Unit {0}
IsLate (program.Own Endless) = Unit {0}
IsLate fault = ⊥

-- why a signer ends behind what came of saying that calls are taken: the output, or such a fault
abbrev pub IsEndBehind : Announced → Fault → Type 0
IsEndBehind Unsaid fault = fault ≡ program.Output
IsEndBehind NotBegun fault = IsLate fault
IsEndBehind Over fault = IsLate fault

-- what was printed by then: nothing, but where such a fault or the output is why
abbrev pub IsGivenUp : Fault → Option (List ℕ) → Option (List ℕ) → Type 0
IsGivenUp program.Memory before after = IsPart before after
IsGivenUp program.Output before after = IsPart before after
IsGivenUp (program.Own Receipts) before after = IsPart before after
IsGivenUp (program.Own Threads) before after = IsPart before after
IsGivenUp (program.Own (Store number)) before after = IsPart before after
IsGivenUp (program.Own (FileIn folder it)) before after = IsPart before after
IsGivenUp (program.Own (DiskFailed socket)) before after = IsPart before after
IsGivenUp (program.Own (Lineage chain)) before after = IsPart before after
IsGivenUp (program.Own Endless) before after = IsPart before after
IsGivenUp fault before after = after ≡ before

-- the exit status: 4 where it is written down that the log was put back, or that a disk failed
abbrev pub fault_status : Fault → ℕ
fault_status (program.Own (FileIn folder PutBack)) = 4
fault_status (program.Own (FileIn folder FailedInFolder)) = 4
fault_status (program.Own (DiskFailed socket)) = 4
fault_status fault = 2

-- of a disk that failed: the mark beside the socket where it stands there alone, else that in the folder
abbrev pub disk_fault : (folder : Bor (List ℕ)) → Where → Option MarkAt → Fault
disk_fault folder (asked.Unix socket) (Some mark.Socket) = program.Own (DiskFailed socket)
disk_fault folder place at = program.Own (FileIn folder FailedInFolder)

-- ---- ends in order

-- a disk stopped the desk, or none did
abbrev pub ended_of : {D : Type 0} → Closed D → Ended
ended_of closed = if closed.parts.log.stopped || closed.parts.index.stopped then Stopped else Done

abbrev pub status_of : Ended → ℕ
status_of Done = 0
status_of Stopped = 2

-- the desk of a stay was closed so: each vote behind the list that it was opened with has its receipt
pub record IsBacked {D : Type 0} (closed : Closed D) : Type 0 where
  pub opened : ℕ
  pub backed : AreReceipts opened closed.parts.log.steps closed.receipts.items

-- where calls are taken was printed, and the last desk that took them was closed so
pub record IsStay {D : Type 0} (before after : Option (List ℕ)) (closed : Closed D) : Type 0 where
  pub places : Places
  pub backed : IsBacked closed
  pub wrote : Wrote before after (listening_text places)

-- .. and behind it how many entries its log has
pub record IsRun {D : Type 0} (disk : Ghosts D) (before after : Option (List ℕ)) (ended : Ended) : Type 0 where
  pub places : Places
  pub closed : Closed D
  pub backed : IsBacked closed
  pub ends : ended ≡ ended_of closed
  pub wrote : Wrote before after (listening_text places ++ closed_line (length closed.parts.log.steps))

-- what is left of a stay: another one follows, or its desk was closed so
abbrev pub IsBackedAfter : After → Type 0
IsBackedAfter (left.Over stand) = Unit {0}
IsBackedAfter (left.Closed closed) = IsBacked closed
