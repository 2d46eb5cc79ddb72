-- A step is given up over a new committee that may not come next, or over a renewal.
use Rattle.std.proofs.Common.{◌≡◌, ◌≢◌, ℕ, List, Option, inl, inr, subst}
use Rattle.blocks.specs.Committees.{IsCommittee}
use Rattle.log_transfer.specs.declared.connector.Connector.{Ghosts}
use Rattle.log_transfer.specs.declared.source_connector.ServerOrFile.{ServerOrFile}
use Rattle.program_parts.specs.declared.program_fault.ProgramFault.{ProgramFault}
use Rattle.program_parts.specs.declared.program_fault.ProgramFault.TheVariants.{Usage, Memory, File, Committee, Output, Own}
use Rattle.program_parts.specs.declared.words.SourceWord.{SourceWord}
use Rattle.program_follow.specs.Faults.{GivesUpStep, IsNextFault, IsRenewalFault, IsStepFault}
use Rattle.program_follow.specs.Outputs.{ComesTo}
use Rattle.program_follow.specs.Words.{OutPaths}
use Rattle.program_follow.specs.declared.fault.FollowFault.{FollowFault}
use Rattle.program_follow.specs.declared.fault.FollowFault.TheVariants.{Sources, OldKey, Renewal, Word as Wrong}
use Rattle.program_follow.proofs.Printing.{silent}

-- a fault of the new committee is one of the step
next_cause : {S F : Type 0} (connector : Ghosts (ServerOrFile S F)) (old new : List ℕ) (renewal : Option (List ℕ)) (outs : OutPaths) (ws : List SourceWord) (committee file : List ℕ) (fault : ProgramFault FollowFault) → IsCommittee committee → IsNextFault committee file fault → IsStepFault connector old new renewal outs ws fault
next_cause connector old new renewal outs ws committee file Usage is c = absurd c
next_cause connector old new renewal outs ws committee file Memory is c = absurd c
next_cause connector old new renewal outs ws committee file (File path) is c = absurd c
next_cause connector old new renewal outs ws committee file (Committee r) is c = (file, c)
next_cause connector old new renewal outs ws committee file Output is c = absurd c
next_cause connector old new renewal outs ws committee file (Own (Sources s)) is c = absurd c
next_cause connector old new renewal outs ws committee file (Own (Renewal refusal)) is c = absurd c
next_cause connector old new renewal outs ws committee file (Own (Wrong word)) is c = absurd c
next_cause connector old new renewal outs ws committee file (Own (OldKey key)) is c = (committee, file, is, c)

-- .. and no failed write
no_output : (committee file : List ℕ) (fault : ProgramFault FollowFault) → IsNextFault committee file fault → fault ≢ Output
no_output committee file fault c e = subst (λ (f : ProgramFault FollowFault). IsNextFault committee file f) e c

pub next_given_up : {S F W : Type 0} (connector : Ghosts (ServerOrFile S F)) (old new : List ℕ) (renewal : Option (List ℕ)) (outs : OutPaths) (ws : List SourceWord) (committee file : List ℕ) (fault : ProgramFault FollowFault) (text : W → Option (List ℕ)) (failed : W → ℕ) (out : W)
    → IsCommittee committee → IsNextFault committee file fault → GivesUpStep connector old new renewal outs ws fault text failed out out
next_given_up connector old new renewal outs ws committee file fault text failed out is c =
    silent (IsStepFault connector old new renewal outs ws) (ComesTo connector renewal ws) fault text failed out (no_output committee file fault c)
    (next_cause connector old new renewal outs ws committee file fault is c)

-- a fault of the renewal is one of the step
renewal_cause : {S F : Type 0} (connector : Ghosts (ServerOrFile S F)) (old new : List ℕ) (renewal : Option (List ℕ)) (outs : OutPaths) (ws : List SourceWord) (fault : ProgramFault FollowFault) → IsRenewalFault renewal fault → IsStepFault connector old new renewal outs ws fault
renewal_cause connector old new renewal outs ws Usage c = absurd c
renewal_cause connector old new renewal outs ws Memory c = tt
renewal_cause connector old new renewal outs ws (File path) c = inr (inr (inl c))
renewal_cause connector old new renewal outs ws (Committee r) c = absurd c
renewal_cause connector old new renewal outs ws Output c = absurd c
renewal_cause connector old new renewal outs ws (Own (Sources s)) c = absurd c
renewal_cause connector old new renewal outs ws (Own (OldKey key)) c = absurd c
renewal_cause connector old new renewal outs ws (Own (Renewal refusal)) c = c
renewal_cause connector old new renewal outs ws (Own (Wrong word)) c = absurd c

no_output_there : (renewal : Option (List ℕ)) (fault : ProgramFault FollowFault) → IsRenewalFault renewal fault → fault ≢ Output
no_output_there renewal fault c e = subst (λ (f : ProgramFault FollowFault). IsRenewalFault renewal f) e c

pub renewal_given_up : {S F W : Type 0} (connector : Ghosts (ServerOrFile S F)) (old new : List ℕ) (renewal : Option (List ℕ)) (outs : OutPaths) (ws : List SourceWord) (fault : ProgramFault FollowFault) (text : W → Option (List ℕ)) (failed : W → ℕ) (out : W)
    → IsRenewalFault renewal fault → GivesUpStep connector old new renewal outs ws fault text failed out out
renewal_given_up connector old new renewal outs ws fault text failed out c =
    silent (IsStepFault connector old new renewal outs ws) (ComesTo connector renewal ws) fault text failed out (no_output_there renewal fault c)
    (renewal_cause connector old new renewal outs ws fault c)
