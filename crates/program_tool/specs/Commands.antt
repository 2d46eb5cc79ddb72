-- What a command that was done has printed.
use Rattle.std.specs.Prelude.{◌≡◌, ◌⊎◌, ℕ, List, Option, codes, length, true}
use Rattle.base_streams.specs.Streams.{Wrote}
use Rattle.base_streams.specs.declared.feed.Feed.{Ghosts as FeedGhosts}
use Rattle.stable_log.specs.declared.disk.Disk.{Ghosts as DiskGhosts}
use Rattle.log_transfer.specs.declared.connector.Connector.{Ghosts as ConnectorGhosts}
use Rattle.log_transfer.specs.declared.source_connector.ServerOrFile.{ServerOrFile}
use Rattle.replica_requests.specs.declared.request_line.LineRequest.{LineRequest}
use Rattle.program_words.specs.declared.command.Command.{Command}
use Rattle.program_words.specs.declared.command.Command.TheVariants.{Usage, Keygen, NextKeys, Committee, Weighted, Replica, Audit, Migrate, Export, Renewal}
use Rattle.program_tool.specs.AuditFiles.{HasStored}
use Rattle.program_tool.specs.Audits.{AreCulpritsPrinted, IsEnoughPrinted, IsTooLittlePrinted}
use Rattle.program_tool.specs.Lines.{IsChainPrinted, IsExportPrinted, IsKeyPrinted, IsMigrationPrinted, IsTextOfKeys, IsTextOfReplicas}
use Rattle.program_tool.specs.NextKeys.{AreNextKeysPrinted}
use Rattle.program_tool.specs.Notes.{TellsNotes}
use Rattle.program_tool.specs.Renewals.{IsRenewalPrinted}
use Rattle.program_tool.specs.Seeds.{IsSeedOf}
use Rattle.program_tool.specs.Stays.{AreReadOf, IsReplicaDone, IsStopPrinted}
use Rattle.program_tool.specs.StoredFiles.{StoredFile}

-- how the tool is called
abbrev pub usage_text : List ℕ
usage_text = codes "hs_tool keygen SEED DIR\nhs_tool committee F OUT KEY..\nhs_tool replica COMMITTEE R DIR\nhs_tool audit COMMITTEE OUTDIR SOURCE..\nhs_tool weighted OUT WEIGHT=PATH..\nhs_tool migrate OLD NEW COMMITTEE\n"

-- what a command is lent: disks for logs, connectors for sources, seeds that may be drawn, what the input has left, which
-- requests of a replica were read of it, and which files were stored
pub record Lent (D S F : Type 0) : Type 1 where
  pub disk : DiskGhosts D
  pub connector : ConnectorGhosts (ServerOrFile S F)
  pub draws : List ℕ → Type 0
  pub rest : Option (List ℕ)
  pub requests : List LineRequest → Type 0
  pub stored : List StoredFile → Type 0

abbrev pub lend : {D S F R : Type 0} → DiskGhosts D → ConnectorGhosts (ServerOrFile S F) → (List ℕ → Type 0) → FeedGhosts R → R → R → (List StoredFile → Type 0) → Lent D S F
lend disk connector draws feed old new stored = record { disk = disk; connector = connector; draws = draws; rest = feed.rest old; requests = AreReadOf feed old new; stored = stored }

-- it has printed what it was asked for
abbrev pub IsDone : {D S F : Type 0} → Lent D S F → Command → (before after : Option (List ℕ)) → Type 0
IsDone lent Usage before after = Wrote before after usage_text
IsDone lent (Keygen seed folder key) before after = IsKeyPrinted (IsSeedOf lent.draws lent.rest seed) before after
IsDone lent (NextKeys folder committee replica count) before after = AreNextKeysPrinted lent.draws replica count before after
IsDone lent (Committee f out keys) before after = IsChainPrinted (IsTextOfKeys f (length keys.items)) before after
IsDone lent (Weighted out replicas) before after = IsChainPrinted (IsTextOfReplicas replicas.items) before after
IsDone lent (Replica committee replica folder workers service) before after = IsReplicaDone lent.disk lent.requests replica service before after
IsDone lent (Audit committee folder sources tries wishes) before after = IsEnoughPrinted lent.connector wishes.strictness sources.items tries.count before after (HasStored lent.stored folder.now sources.items wishes.json)
IsDone lent (Migrate old new committee) before after = IsMigrationPrinted lent.disk before after
IsDone lent (Export log out) before after = IsExportPrinted before after
IsDone lent (Renewal committee file renewal endorsements) before after = IsRenewalPrinted (length endorsements.items) before after

-- .. of one that found culprits: it is an audit
abbrev pub AreCulpritsFound : {D S F : Type 0} → Lent D S F → Command → (before after : Option (List ℕ)) → Type 0
AreCulpritsFound lent (Audit committee folder sources tries wishes) before after = AreCulpritsPrinted lent.connector sources.items tries.count before after (HasStored lent.stored folder.now sources.items wishes.json)
AreCulpritsFound lent command before after = ⊥

-- .. of one that found no culprit, in too few sound sources: it is an audit that was to be strict
abbrev pub AreTooFewSound : {D S F : Type 0} → Lent D S F → Command → (before after : Option (List ℕ)) → Type 0
AreTooFewSound lent (Audit committee folder sources tries wishes) before after = IsTooLittlePrinted lent.connector wishes.strictness sources.items tries.count before after (HasStored lent.stored folder.now sources.items wishes.json)
AreTooFewSound lent command before after = ⊥

-- beside its report it tells reasons, for which it is asked, or a handover and what was heard of the servers of its sources
abbrev pub TellsBeside : Command → (before after : Option (List ℕ)) → Type 0
TellsBeside (Audit committee folder sources tries wishes) before after = (wishes.tells_why ≡ true) ⊎ TellsNotes (length sources.items) before after
TellsBeside command before after = ⊥

-- .. of one that was stopped: it is a replica
abbrev pub IsStopped : {D S F : Type 0} → Lent D S F → Command → (before after : Option (List ℕ)) → Type 0
IsStopped lent (Replica committee replica folder workers service) before after = IsStopPrinted lent.disk lent.requests replica before after
IsStopped lent command before after = ⊥
