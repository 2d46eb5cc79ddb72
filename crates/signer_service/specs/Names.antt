-- The names that docs/REFUSALS.md gives the refusals of other crates.
use Rattle.std.specs.Prelude.{ℕ, List, codes}
use Rattle.blocks.specs.declared.header.HeaderRefusal.{HeaderRefusal}
use Rattle.blocks.specs.declared.header.HeaderRefusal.TheVariants as header
use Rattle.certificates.specs.declared.certificate.CertificateRefusal.{CertificateRefusal}
use Rattle.certificates.specs.declared.certificate.CertificateRefusal.TheVariants as certificate
use Rattle.certificates.specs.declared.checked_block.BlockRefusal.{BlockRefusal}
use Rattle.certificates.specs.declared.checked_block.BlockRefusal.TheVariants as block
use Rattle.certificates.specs.declared.vote.VoteRefusal.{VoteRefusal}
use Rattle.certificates.specs.declared.vote.VoteRefusal.TheVariants as vote
use Rattle.replica_core.specs.declared.refusal.CoreRefusal.{CoreRefusal}
use Rattle.replica_core.specs.declared.refusal.CoreRefusal.TheVariants as core
use Rattle.vote_log.specs.declared.log_error.LogError.{LogError}
use Rattle.vote_log.specs.declared.log_error.LogError.TheVariants as log
use Rattle.vote_desk.specs.declared.desk_error.DeskError.{DeskError}
use Rattle.vote_desk.specs.declared.desk_error.DeskError.TheVariants as desk

abbrev pub header_refusal_name : HeaderRefusal → List ℕ
header_refusal_name header.Length = codes "Length"
header_refusal_name header.Magic = codes "Magic"
header_refusal_name header.ViewOrder = codes "ViewOrder"

abbrev pub certificate_refusal_name : CertificateRefusal → List ℕ
certificate_refusal_name certificate.Memory = codes "Memory"
certificate_refusal_name certificate.Length = codes "Length"
certificate_refusal_name certificate.Order = codes "Order"
certificate_refusal_name certificate.Count = codes "Count"

abbrev pub block_refusal_name : BlockRefusal → List ℕ
block_refusal_name block.WrongBlock = codes "WrongBlock"
block_refusal_name block.Count = codes "Count"
block_refusal_name block.UnknownReplica = codes "UnknownReplica"
block_refusal_name block.UnknownKey = codes "UnknownKey"
block_refusal_name (block.Signature k) = codes "Signature"

abbrev pub vote_refusal_name : VoteRefusal → List ℕ
vote_refusal_name vote.UnknownReplica = codes "UnknownReplica"
vote_refusal_name vote.UnknownKey = codes "UnknownKey"
vote_refusal_name vote.Signature = codes "Signature"

abbrev pub core_refusal_name : CoreRefusal → List ℕ
core_refusal_name core.Memory = codes "Memory"
core_refusal_name core.UnknownParent = codes "UnknownParent"
core_refusal_name core.ParentView = codes "ParentView"
core_refusal_name core.TreeFull = codes "TreeFull"
core_refusal_name core.SameId = codes "SameId"

abbrev pub log_error_name : LogError → List ℕ
log_error_name log.Memory = codes "Memory"
log_error_name log.Device = codes "Device"
log_error_name log.NotAJournal = codes "NotAJournal"
log_error_name log.Damaged = codes "Damaged"
log_error_name log.Full = codes "Full"
log_error_name log.Stopped = codes "Stopped"
log_error_name log.NoSuchEntry = codes "NoSuchEntry"
log_error_name (log.BadEntry k) = codes "BadEntry"
log_error_name (log.IllegalLog k) = codes "IllegalLog"

abbrev pub desk_error_name : DeskError → List ℕ
desk_error_name desk.Memory = codes "Memory"
desk_error_name (desk.Core refusal) = codes "Core"
desk_error_name desk.KeySpent = codes "KeySpent"
desk_error_name desk.LogFull = codes "LogFull"
desk_error_name desk.Device = codes "Device"
desk_error_name desk.Stopped = codes "Stopped"
desk_error_name desk.ReceiptMismatch = codes "ReceiptMismatch"
