-- Why the program gives up, and what it leaves then.
use Rattle.std.specs.Prelude.{◌≡◌, ◌≢◌, ◌⊎◌, ℕ, List, [], Option, Some, Err, IsSome, String, ⊤}
use Rattle.std.specs.declared.alloc.Global.{Global}
use Rattle.base_streams.specs.Streams.{WrotePart}
use Rattle.blocks.specs.CommitteeReading.{committee_in}
use Rattle.blocks.specs.Committees.{IsCommittee}
use Rattle.blocks.specs.Headers.{Header}
use Rattle.audit_evidence.specs.declared.refusal.EvidenceRefusal.TheVariants.{Collision as Colliding}
use Rattle.log_transfer.specs.declared.connector.Connector.{Ghosts}
use Rattle.log_transfer.specs.declared.source_connector.ServerOrFile.{ServerOrFile}
use Rattle.parallel_verify.specs.Collections.{HaveCollision, MayGive}
use Rattle.program_parts.specs.Writes.{CountsOutput}
use Rattle.program_parts.specs.declared.program_fault.ProgramFault.{ProgramFault}
use Rattle.program_parts.specs.declared.program_fault.ProgramFault.TheVariants.{Memory, File, Committee, Output, Own}
use Rattle.program_parts.specs.declared.source_fault.SourceFault.TheVariants.{Collision}
use Rattle.program_parts.specs.declared.words.SourceWord.{SourceWord}
use Rattle.handover_renewals.specs.RenewalReading.{renewal_in}
use Rattle.handover_steps.specs.Successors.{IsSuccessorRefusal}
use Rattle.handover_steps.specs.declared.file_refusal.SuccessorRefusal.TheVariants.{OldKey as Taken}
use Rattle.program_follow.specs.Outputs.{ComesTo, IsOutput}
use Rattle.program_follow.specs.Sources.{AreOpenedAs}
use Rattle.program_follow.specs.Words.{AskForStep, IsWordsFault, OutPaths}
use Rattle.program_follow.specs.declared.fault.FollowFault.{FollowFault}
use Rattle.program_follow.specs.declared.fault.FollowFault.TheVariants.{Sources, OldKey, Renewal}

-- two different headers in logs that sources give which are as these words say have one id
pub record ShowCollision {S F : Type 0} (connector : Ghosts (ServerOrFile S F)) (committee : List ℕ) (words : List SourceWord) : Type 0 where
  pub of : AreOpenedAs S F words
  pub first : Header
  pub second : Header
  pub collide : HaveCollision (MayGive connector.gives) committee of.sources (Colliding first second)

-- why these sources show nothing under a committee
abbrev pub IsSourcesFault : {S F : Type 0} → Ghosts (ServerOrFile S F) → List ℕ → List SourceWord → ProgramFault FollowFault → Type 0
IsSourcesFault connector committee words Memory = ⊤
IsSourcesFault connector committee words (Own (Sources Collision)) = ShowCollision connector committee words
IsSourcesFault connector committee words fault = ⊥

-- memory was refused, or no renewal could be read at its path
abbrev pub IsRenewalFault : Option (List ℕ) → ProgramFault FollowFault → Type 0
IsRenewalFault renewal Memory = ⊤
IsRenewalFault renewal (File path) = renewal ≡ Some path.now
IsRenewalFault renewal (Own (Renewal refusal)) = IsSome renewal × ((bytes : List ℕ) × (renewal_in bytes ≡ Err refusal))
IsRenewalFault renewal fault = ⊥

-- a proof goes to this path
abbrev pub IsOut : OutPaths → List ℕ → Type 0
IsOut outs path = (outs.proof ≡ Some path) ⊎ (outs.light ≡ Some path)

-- memory was refused, or a proof could not be put at its path
abbrev pub IsProofFault : OutPaths → ProgramFault FollowFault → Type 0
IsProofFault outs Memory = ⊤
IsProofFault outs (File path) = IsOut outs path.now
IsProofFault outs fault = ⊥

-- .. of one path
abbrev pub IsOutFault : Option (List ℕ) → ProgramFault FollowFault → Type 0
IsOutFault out Memory = ⊤
IsOutFault out (File path) = out ≡ Some path.now
IsOutFault out fault = ⊥

-- .. under some committee, or a proof could not be put at its path
abbrev pub IsFollowFault : {S F : Type 0} → Ghosts (ServerOrFile S F) → OutPaths → List SourceWord → ProgramFault FollowFault → Type 0
IsFollowFault connector outs words (File path) = IsOut outs path.now
IsFollowFault connector outs words fault = (committee : List ℕ) × IsCommittee committee × IsSourcesFault connector committee words fault

-- why the committee of this file may not come after the old one: it is none, or the key of this number is the first that is one of the
-- old one in a slot that may not keep it
abbrev pub IsNextFault : (old file : List ℕ) → ProgramFault FollowFault → Type 0
IsNextFault old file (Committee r) = committee_in file ≡ Err r
IsNextFault old file (Own (OldKey key)) = IsSuccessorRefusal [] old file (Taken key)
IsNextFault old file fault = ⊥

-- .. after some old committee, of some file
abbrev pub HaveOldKey : ℕ → Type 0
HaveOldKey key = (old : List ℕ) × (file : List ℕ) × IsCommittee old × IsSuccessorRefusal [] old file (Taken key)

-- why there is no step from the committee of the one file to that of the other, by these sources, with the renewal at this path, and its
-- proofs at these
abbrev pub IsStepFault : {S F : Type 0} → Ghosts (ServerOrFile S F) → (old new : List ℕ) → (renewal : Option (List ℕ)) → (outs : OutPaths) → List SourceWord → ProgramFault FollowFault → Type 0
IsStepFault connector old new renewal outs words Memory = ⊤
IsStepFault connector old new renewal outs words (File path) = (path.now ≡ old) ⊎ ((path.now ≡ new) ⊎ ((renewal ≡ Some path.now) ⊎ IsOut outs path.now))
IsStepFault connector old new renewal outs words (Committee r) = (bytes : List ℕ) × (committee_in bytes ≡ Err r)
IsStepFault connector old new renewal outs words (Own (OldKey key)) = HaveOldKey key
IsStepFault connector old new renewal outs words (Own (Renewal refusal)) = IsRenewalFault renewal (Own (Renewal refusal))
IsStepFault connector old new renewal outs words fault = IsFollowFault connector outs words fault

-- ---- over words

-- why there is no step of those that they ask for
abbrev pub IsFaultOfStep : {S F : Type 0} → Ghosts (ServerOrFile S F) → List (String Global) → ProgramFault FollowFault → Type 0
IsFaultOfStep connector words fault =
    (old : List ℕ) × (new : List ℕ) × (sources : List SourceWord) × (renewal : Option (List ℕ)) × (outs : OutPaths) × AskForStep words old new sources renewal outs × IsStepFault connector old new renewal outs sources fault

-- why the program gives up over them, but where a write failed
abbrev pub IsCause : {S F : Type 0} → Ghosts (ServerOrFile S F) → List (String Global) → ProgramFault FollowFault → Type 0
IsCause connector words fault = IsWordsFault words fault ⊎ IsFaultOfStep connector words fault

-- it gives up over the fault: the fault has its cause and nothing was written, or a write failed behind a first part of what
-- it was to print
pub record GivesUpOver {W : Type 0} (Cause : ProgramFault FollowFault → Type 0) (Prints : ℕ → List ℕ → Type 0) (fault : ProgramFault FollowFault) (text : W → Option (List ℕ)) (failed : W → ℕ) (out out' : W) : Type 0 where
  pub cause : fault ≢ Output → Cause fault × (out' ≡ out)
  pub cut_short : fault ≡ Output → (status : ℕ) × (whole : List ℕ) × Prints status whole × WrotePart (text out) (text out') whole
  pub counted : CountsOutput fault (failed out) (failed out')

-- .. in one step
abbrev pub GivesUpStep : {S F W : Type 0} → Ghosts (ServerOrFile S F) → (old new : List ℕ) → (renewal : Option (List ℕ)) → (outs : OutPaths) → List SourceWord → ProgramFault FollowFault → (W → Option (List ℕ)) → (W → ℕ) → W → W → Type 0
GivesUpStep connector old new renewal outs words = GivesUpOver (IsStepFault connector old new renewal outs words) (ComesTo connector renewal words)

-- .. over words
abbrev pub GivesUp : {S F W : Type 0} → Ghosts (ServerOrFile S F) → List (String Global) → ProgramFault FollowFault → (W → Option (List ℕ)) → (W → ℕ) → W → W → Type 0
GivesUp connector words = GivesUpOver (IsCause connector words) (IsOutput connector words)
