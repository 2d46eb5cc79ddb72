-- From the sources of a step to the step, and from that to words.
use Rattle.std.proofs.Common.{◌≡◌, ◌≢◌, ℕ, List, [], ◌∷◌, Option, Result, String, Ok, Err, ◌⊎◌, refl, sym, ap, subst, inl, inr, arith}
use Rattle.std.specs.Prelude.{IfErr, IfOk}
use Rattle.std.specs.declared.alloc.Global.{Global}
use Rattle.base_streams.specs.Streams.{Wrote, WrotePart}
use Rattle.log_transfer.specs.declared.connector.Connector.{Ghosts}
use Rattle.log_transfer.specs.declared.source_connector.ServerOrFile.{ServerOrFile}
use Rattle.program_parts.specs.Writes.{CountsOutput}
use Rattle.program_parts.specs.declared.program_fault.ProgramFault.{ProgramFault}
use Rattle.program_parts.specs.declared.program_fault.ProgramFault.TheVariants.{Usage, Memory, File, Committee, Output, Own}
use Rattle.program_parts.specs.declared.source_fault.SourceFault.TheVariants.{Word, Collision}
use Rattle.program_parts.specs.declared.words.SourceWord.{SourceWord}
use Rattle.program_follow.specs.FaultLines.{follow_fault_line}
use Rattle.program_follow.specs.Faults.{GivesUp, GivesUpOver, GivesUpStep, IsCause, IsFollowFault, IsProofFault, IsSourcesFault, IsStepFault}
use Rattle.blocks.specs.Committees.{IsCommittee}
use Rattle.audit_evidence.specs.Evidence.{Evidence}
use Rattle.handover_renewals.specs.Renewals.{Renewal as RenewalValue}
use Rattle.program_follow.specs.RenewalLines.{AreLinesOn, IsReadAt}
use Rattle.program_follow.specs.Sources.{IsShown}
use Rattle.culprit_search.specs.Reports.{Report}
use Rattle.program_follow.specs.Followings.{IsFollowing, status_of}
use Rattle.program_follow.specs.Outputs.{MayComeNext, ComesTo, IsOutput, IsReportOf, step_text, usage_line}
use Rattle.program_follow.specs.Words.{AskForStep, HaveBadSource, IsUsage, IsWordsFault, OutPaths, before_renewal, usage_fault_line, wrong_word}
use Rattle.program_follow.specs.declared.fault.FollowFault.{FollowFault}
use Rattle.program_follow.specs.declared.fault.FollowFault.TheVariants.{Sources, OldKey, Renewal, Word as Wrong}
use Rattle.program_follow.specs.declared.following.Following.{Following}
use Rattle.program_follow.specs.declared.following.Following.TheVariants.{Conflict, New, Another, Nobody}
use Rattle.program_follow.proofs.Printing.{given_up_as, silent}

-- ---- a step

pub of_same_words : {S F : Type 0} (connector : Ghosts (ServerOrFile S F)) (renewal : Option (List ℕ)) (r : Result ℕ (ProgramFault FollowFault)) (ws ws' : List SourceWord) (before after : Option (List ℕ)) → ws' ≡ ws
    → IfOk r (λ s. (t : List ℕ) × ComesTo connector renewal ws' s t × Wrote before after t) → IfOk r (λ s. (t : List ℕ) × ComesTo connector renewal ws s t × Wrote before after t)
of_same_words connector renewal r ws ws' before after same is = subst (λ (xs : List SourceWord). IfOk r (λ s. (t : List ℕ) × ComesTo connector renewal xs s t × Wrote before after t)) same is

step_cause : {S F : Type 0} (connector : Ghosts (ServerOrFile S F)) (old new : List ℕ) (renewal : Option (List ℕ)) (outs : OutPaths) (ws : List SourceWord) (fault : ProgramFault FollowFault) → IsFollowFault connector outs ws fault → IsStepFault connector old new renewal outs ws fault
step_cause connector old new renewal outs ws Usage c = c
step_cause connector old new renewal outs ws Memory c = tt
step_cause connector old new renewal outs ws (File path) c = inr (inr (inr c))
step_cause connector old new renewal outs ws (Committee r) c = absurd c.2
step_cause connector old new renewal outs ws Output c = c
step_cause connector old new renewal outs ws (Own (Sources s)) c = c
step_cause connector old new renewal outs ws (Own (OldKey key)) c = absurd c.2
step_cause connector old new renewal outs ws (Own (Renewal refusal)) c = absurd c.2
step_cause connector old new renewal outs ws (Own (Wrong word)) c = absurd c.2

-- a fault of the proof is one of the step
pub proof_cause : {S F : Type 0} (connector : Ghosts (ServerOrFile S F)) (old new : List ℕ) (renewal : Option (List ℕ)) (outs : OutPaths) (ws : List SourceWord) (fault : ProgramFault FollowFault) → IsProofFault outs fault → IsStepFault connector old new renewal outs ws fault
proof_cause connector old new renewal outs ws Usage c = absurd c
proof_cause connector old new renewal outs ws Memory c = tt
proof_cause connector old new renewal outs ws (File path) c = inr (inr (inr c))
proof_cause connector old new renewal outs ws (Committee r) c = absurd c
proof_cause connector old new renewal outs ws Output c = absurd c
proof_cause connector old new renewal outs ws (Own own) c = absurd c

-- .. and one of following
pub proof_of_following : {S F : Type 0} (connector : Ghosts (ServerOrFile S F)) (committee : List ℕ) (outs : OutPaths) (ws : List SourceWord) (fault : ProgramFault FollowFault) → IsCommittee committee → IsProofFault outs fault → IsFollowFault connector outs ws fault
proof_of_following connector committee outs ws Usage is c = absurd c
proof_of_following connector committee outs ws Memory is c = (committee, is, tt)
proof_of_following connector committee outs ws (File path) is c = c
proof_of_following connector committee outs ws (Committee r) is c = absurd c
proof_of_following connector committee outs ws Output is c = absurd c
proof_of_following connector committee outs ws (Own own) is c = absurd c

-- sources that are the same show the same
shown_of_same : {S F : Type 0} (connector : Ghosts (ServerOrFile S F)) (committee : List ℕ) (ws ws' : List SourceWord) (e : Evidence) → ws' ≡ ws → IsShown connector committee ws' e → IsShown connector committee ws e
shown_of_same connector committee ws ws' e same is = subst (λ (xs : List SourceWord). IsShown connector committee xs e) same is

-- what sources show, its report, what follows and what a renewal says are a step
pub comes_to : {S F : Type 0} (connector : Ghosts (ServerOrFile S F)) (old new : List ℕ) (path : Option (List ℕ)) (ws ws' : List SourceWord) (e : Evidence) (r : Report) (f : Following) (renewal : Option RenewalValue) (judged : List ℕ) → MayComeNext old new → ws' ≡ ws → IsShown connector old ws' e → IsReportOf e r → IsFollowing e new f
    → IsReadAt path renewal → AreLinesOn old new renewal judged → ComesTo connector path ws (status_of f) (step_text e.sources r f judged)
comes_to connector old new path ws ws' e r f renewal judged next same shown report following read lines = record {
  old = old;
  new = new;
  next = next;
  evidence = e;
  shown = shown_of_same connector old ws ws' e same shown;
  report = r;
  is_report = report;
  following = f;
  is_following = following;
  renewal = renewal;
  read = read;
  judged = judged;
  are_judged = lines;
  told = refl;
  ends = refl;
}

-- a fault of the sources is one of following
pub sources_of_following : {S F : Type 0} (connector : Ghosts (ServerOrFile S F)) (committee : List ℕ) (outs : OutPaths) (ws : List SourceWord) (fault : ProgramFault FollowFault) → IsCommittee committee → IsSourcesFault connector committee ws fault → IsFollowFault connector outs ws fault
sources_of_following connector committee outs ws Usage is c = absurd c
sources_of_following connector committee outs ws Memory is c = (committee, is, tt)
sources_of_following connector committee outs ws (File path) is c = absurd c
sources_of_following connector committee outs ws (Committee r) is c = absurd c
sources_of_following connector committee outs ws Output is c = absurd c
sources_of_following connector committee outs ws (Own (Sources (Word i))) is c = absurd c
sources_of_following connector committee outs ws (Own (Sources Collision)) is c = (committee, is, c)
sources_of_following connector committee outs ws (Own (OldKey key)) is c = absurd c
sources_of_following connector committee outs ws (Own (Renewal refusal)) is c = absurd c
sources_of_following connector committee outs ws (Own (Wrong word)) is c = absurd c

pub step_given_up : {S F W : Type 0} (connector : Ghosts (ServerOrFile S F)) (old new : List ℕ) (renewal : Option (List ℕ)) (outs : OutPaths) (ws ws' : List SourceWord) (r : Result ℕ (ProgramFault FollowFault)) (text : W → Option (List ℕ)) (failed : W → ℕ) (out out' : W) → ws' ≡ ws
    → IfErr r (λ f. GivesUpOver (IsFollowFault connector outs ws') (ComesTo connector renewal ws') f text failed out out') → IfErr r (λ f. GivesUpStep connector old new renewal outs ws f text failed out out')
step_given_up connector old new renewal outs ws ws' (Ok s) text failed out out' same up = tt
step_given_up connector old new renewal outs ws ws' (Err f) text failed out out' same up =
    given_up_as (IsFollowFault connector outs ws') (IsStepFault connector old new renewal outs ws) (ComesTo connector renewal ws') (ComesTo connector renewal ws) f text failed out out'
    (λ other c. step_cause connector old new renewal outs ws f (subst (λ (xs : List SourceWord). IsFollowFault connector outs xs f) same c))
    (λ status whole is. subst (λ (xs : List SourceWord). ComesTo connector renewal xs status whole) same is) up

-- ---- over words

no_step_of_none : (old new : List ℕ) (ws : List SourceWord) (renewal : Option (List ℕ)) (outs : OutPaths) → AskForStep [] old new ws renewal outs → ⊥
unfolding before_renewal
no_step_of_none old new ws renewal outs ask = ask.are

output_of : {S F : Type 0} (connector : Ghosts (ServerOrFile S F)) (words : List (String Global)) (old new : List ℕ) (ws : List SourceWord) (renewal : Option (List ℕ)) (outs : OutPaths) (status : ℕ) (text : List ℕ) → AskForStep words old new ws renewal outs → ComesTo connector renewal ws status text
    → IsOutput connector words status text
output_of connector [] old new ws renewal outs status text ask is = absurd (no_step_of_none old new ws renewal outs ask)
output_of connector (w ∷ words) old new ws renewal outs status text ask is = (old, new, ws, renewal, outs, ask, is)

not_two : (f : Following) → status_of f ≢ 2
not_two Conflict e = let no : ⊥ = omega (arith, e) in no
not_two (New b) e = let no : ⊥ = omega (arith, e) in no
not_two (Another b) e = let no : ⊥ = omega (arith, e) in no
not_two Nobody e = let no : ⊥ = omega (arith, e) in no

status_among : (f : Following) → (status_of f ≡ 0) ⊎ ((status_of f ≡ 1) ⊎ ((status_of f ≡ 2) ⊎ (status_of f ≡ 3)))
status_among Conflict = inr (inr (inr refl))
status_among (New b) = inl refl
status_among (Another b) = inr (inl refl)
status_among Nobody = inr (inl refl)

-- 0, 1 or 3
pub output_status : {S F : Type 0} (connector : Ghosts (ServerOrFile S F)) (words : List (String Global)) (status : ℕ) (text : List ℕ) → IsOutput connector words status text
    → (status ≡ 0) ⊎ ((status ≡ 1) ⊎ ((status ≡ 2) ⊎ (status ≡ 3)))
output_status connector [] status text is = inl is.0
output_status connector (w ∷ words) status text (old, new, ws, renewal, outs, ask, is) =
    subst (λ (n : ℕ). (n ≡ 0) ⊎ ((n ≡ 1) ⊎ ((n ≡ 2) ⊎ (n ≡ 3)))) (sym is.ends) (status_among is.following)

pub printed_over : {S F : Type 0} (connector : Ghosts (ServerOrFile S F)) (words : List (String Global)) (old new : List ℕ) (ws : List SourceWord) (renewal : Option (List ℕ)) (outs : OutPaths) (r : Result ℕ (ProgramFault FollowFault)) (before after : Option (List ℕ))
    → AskForStep words old new ws renewal outs → IfOk r (λ s. (t : List ℕ) × ComesTo connector renewal ws s t × Wrote before after t)
    → IfOk r (λ s. (s ≢ 2) × ((t : List ℕ) × IsOutput connector words s t × Wrote before after t))
printed_over connector words old new ws renewal outs (Err f) before after ask is = tt
printed_over connector words old new ws renewal outs (Ok s) before after ask is = (
  subst (λ (n : ℕ). n ≢ 2) (sym is.1.ends) (not_two is.1.following),
  (is.0, output_of connector words old new ws renewal outs s is.0 ask is.1, is.2),
)

pub given_up_over : {S F W : Type 0} (connector : Ghosts (ServerOrFile S F)) (words : List (String Global)) (old new : List ℕ) (ws : List SourceWord) (renewal : Option (List ℕ)) (outs : OutPaths) (r : Result ℕ (ProgramFault FollowFault)) (text : W → Option (List ℕ)) (failed : W → ℕ) (out out' : W)
    → AskForStep words old new ws renewal outs → IfErr r (λ f. GivesUpStep connector old new renewal outs ws f text failed out out') → IfErr r (λ f. GivesUp connector words f text failed out out')
given_up_over connector words old new ws renewal outs (Ok s) text failed out out' ask up = tt
given_up_over connector words old new ws renewal outs (Err f) text failed out out' ask up =
    given_up_as (IsStepFault connector old new renewal outs ws) (IsCause connector words) (ComesTo connector renewal ws) (IsOutput connector words) f text failed out out'
    (λ other c. inr (old, new, ws, renewal, outs, ask, c)) (λ status whole is. output_of connector words old new ws renewal outs status whole ask is) up

-- how the program is called could not be printed
pub usage_cut : {S F W : Type 0} (connector : Ghosts (ServerOrFile S F)) (words : List (String Global)) (fault : ProgramFault FollowFault) (text : W → Option (List ℕ)) (failed : W → ℕ) (out out' : W) → words ≡ [] → fault ≡ Output
    → WrotePart (text out) (text out') usage_line → CountsOutput fault (failed out) (failed out') → GivesUp connector words fault text failed out out'
usage_cut connector words fault text failed out out' none is part counted = record {
  cause = λ other. absurd (other is);
  cut_short = λ _. (0, usage_line, subst (λ (ws : List (String Global)). IsOutput connector ws 0 usage_line) (sym none) (refl, refl), part);
  counted = counted;
}

-- ---- words that ask for nothing

no_usage : (words : List (String Global)) (old new : List ℕ) (ws : List SourceWord) (renewal : Option (List ℕ)) (outs : OutPaths) → IsUsage words → AskForStep words old new ws renewal outs → ⊥
no_usage words old new ws renewal outs usage ask = usage.no_step ask.named

pub output_is_no_usage : {S F : Type 0} (connector : Ghosts (ServerOrFile S F)) (words : List (String Global)) (status : ℕ) (text : List ℕ) → IsUsage words → IsOutput connector words status text → ⊥
output_is_no_usage connector [] status text usage is = usage.some refl
output_is_no_usage connector (w ∷ words) status text usage (old, new, ws, renewal, outs, ask, is) = no_usage (w ∷ words) old new ws renewal outs usage ask

bad_is_no_usage : (words : List (String Global)) (i : ℕ) → IsUsage words → HaveBadSource words i → ⊥
bad_is_no_usage words i usage bad = usage.no_step bad.0

usage_of_words : (words : List (String Global)) (fault : ProgramFault FollowFault) → IsUsage words → IsWordsFault words fault → follow_fault_line fault ≡ usage_fault_line (wrong_word words)
usage_of_words words Usage usage is = sym (ap usage_fault_line is.1)
usage_of_words words (Own (Wrong word)) usage is = sym (ap usage_fault_line is.1)
usage_of_words words Memory usage is = absurd (usage.no_step is)
usage_of_words words (File path) usage is = absurd is
usage_of_words words (Committee r) usage is = absurd is
usage_of_words words Output usage is = absurd is
usage_of_words words (Own (Sources (Word i))) usage is = absurd (bad_is_no_usage words i usage is)
usage_of_words words (Own (Sources Collision)) usage is = absurd is
usage_of_words words (Own (OldKey key)) usage is = absurd is
usage_of_words words (Own (Renewal refusal)) usage is = absurd is

fault_cases : (fault : ProgramFault FollowFault) → (fault ≡ Output) ⊎ (fault ≢ Output)
fault_cases Usage = inr (λ e. let no : ⊥ = cc in no)
fault_cases Memory = inr (λ e. let no : ⊥ = cc in no)
fault_cases (File path) = inr (λ e. let no : ⊥ = cc in no)
fault_cases (Committee r) = inr (λ e. let no : ⊥ = cc in no)
fault_cases Output = inl refl
fault_cases (Own own) = inr (λ e. let no : ⊥ = cc in no)

-- words that are no usage of the program give this fault
pub is_usage : {S F W : Type 0} (connector : Ghosts (ServerOrFile S F)) (words : List (String Global)) (fault : ProgramFault FollowFault) (text : W → Option (List ℕ)) (failed : W → ℕ) (out out' : W) → IsUsage words
    → GivesUp connector words fault text failed out out' → follow_fault_line fault ≡ usage_fault_line (wrong_word words)
is_usage connector words fault text failed out out' usage gives = elim (fault_cases fault) [
  | inl e ↦ let cut = gives.cut_short e in absurd (output_is_no_usage connector words cut.0 cut.1 usage cut.2)
  | inr other ↦ elim (gives.cause other).0 [
    | inl is ↦ usage_of_words words fault usage is
    | inr is ↦ absurd (no_usage words is.0 is.1 is.2 is.3 is.4 usage is.5)
  ]
]

-- .. and is told with nothing written
no_output : {S F : Type 0} (connector : Ghosts (ServerOrFile S F)) (committee : List ℕ) (ws : List SourceWord) (fault : ProgramFault FollowFault) → IsSourcesFault connector committee ws fault → fault ≢ Output
no_output connector committee ws fault c e = subst (λ (f : ProgramFault FollowFault). IsSourcesFault connector committee ws f) e c

pub evidence_given_up : {S F W : Type 0} (connector : Ghosts (ServerOrFile S F)) (committee : List ℕ) (renewal : Option (List ℕ)) (outs : OutPaths) (ws ws' : List SourceWord) (fault : ProgramFault FollowFault) (text : W → Option (List ℕ)) (failed : W → ℕ) (out : W) → IsCommittee committee → ws' ≡ ws
    → IsSourcesFault connector committee ws' fault → GivesUpOver (IsFollowFault connector outs ws) (ComesTo connector renewal ws) fault text failed out out
evidence_given_up connector committee renewal outs ws ws' fault text failed out is same c =
    silent (IsFollowFault connector outs ws) (ComesTo connector renewal ws) fault text failed out (no_output connector committee ws' fault c)
    (sources_of_following connector committee outs ws fault is (subst (λ (xs : List SourceWord). IsSourcesFault connector committee xs fault) same c))
