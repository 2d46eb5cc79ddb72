-- Steps that come to a committee.
use Rattle.std.proofs.Common.{◌≡◌, ◌≢◌, ◌<◌, ◌+◌, ◌++◌, ℕ, List, [], ◌∷◌, refl, sym, ◌∙◌, ap, subst, Option, Some, Result, Ok, Err, IfErr, IfOk, drop, get_or, length, take}
use Rattle.std.specs.declared.alloc.AllocError.{AllocError}
use Rattle.std.specs.Result.{IsErrAnd}
use Rattle.std.proofs.lemmas.List.{drop_more, take-append-drop, take_more}
use Rattle.handover_blocks.specs.Handovers.{handover_payload}
use Rattle.audit_evidence.specs.Evidence.{Evidence}
use Rattle.handover_light.specs.LightProofs.{LightProof}
use Rattle.handover_light.specs.LightProofLaws.{LightProofsAgree}
use Rattle.handover_light.specs.Proving.{ProvesHandover, handover_block}
use Rattle.blocks.specs.Headers.{Header}
use Rattle.handover_renewals.specs.Renewals.{Renewal}
use Rattle.handover_steps.specs.Steps.{IsGoodBy, IsGoodStep, IsStepOf, Step, StepFiles, files_of_step}
use Rattle.handover_steps.specs.StepRefusals.{IsStepRefusal}
use Rattle.handover_steps.specs.declared.refusal.StepRefusal.{StepRefusal}
use Rattle.handover_steps.specs.declared.refusal.StepRefusal.TheVariants.{Memory}
use Rattle.handover_steps.specs.JudgedSteps.{AreStepsTo, ComesToBy, IsLineageOf, Lineage}
use Rattle.handover_steps.specs.StepLaws.{AreSound, HaveNoCollision, IsSound, LineagesAgree, NameTheSame, StepsComeToOne, StepsCompose, StepsThatAreToldComeTo}

-- a step that is told of is good
is_good : (old : List ℕ) (s : StepFiles) (t : Step) → IsStepOf old s t → IsGoodStep old s
is_good old s t (p, r, good, told) = (p, r, good)

pub told_come : StepsThatAreToldComeTo
told_come root last [] [] same = same
told_come root last [] (t ∷ ts) none = absurd none
told_come root last (s ∷ ss) [] none = absurd none
told_come root last (s ∷ ss) (t ∷ ts) (step, rest) = (is_good root s t step, told_come s.file last ss ts rest)

pub composed : StepsCompose
composed root between last [] more same go = subst (λ (c : List ℕ). ComesToBy c more last) (sym same) go
composed root between last (s ∷ ss) more (good, rest) go = (good, composed s.file between last ss more rest go)

pub come_to_one : StepsComeToOne
come_to_one root last other [] a b = sym a ∙ b
come_to_one root last other (s ∷ ss) (x, a) (y, b) = come_to_one s.file last other ss a b

-- one more step
pub one_more :
    (root last : List ℕ) (ss : List StepFiles) (ts : List Step) (s : StepFiles) (t : Step)
    → AreStepsTo root ss ts last → IsStepOf last s t → AreStepsTo root (ss ++ s ∷ []) (ts ++ t ∷ []) s.file
one_more root last [] [] s t same step = (subst (λ (c : List ℕ). IsStepOf c s t) (sym same) step, refl)
one_more root last [] (u ∷ ts) s t none step = absurd none
one_more root last (x ∷ ss) [] s t none step = absurd none
one_more root last (x ∷ ss) (u ∷ ts) s t (first, rest) step = (first, one_more x.file last ss ts s t rest step)

-- .. the one at this place
pub one_more_at :
    (root : List ℕ) (files : List StepFiles) (i : ℕ) (old new : List ℕ) (ts more : List Step) (one : StepFiles) (t : Step)
    → i < length files → one ≡ get_or files i one → AreStepsTo root (take i files) ts old → IsStepOf old one t → new ≡ one.file → more ≡ ts ++ t ∷ []
    → AreStepsTo root (take (i + 1) files) more new
one_more_at root files i old new ts more one t within is so_far step last items =
    let firsts : take (i + 1) files ≡ take i files ++ one ∷ [] = take_more files i one within ∙ ap (λ (x : StepFiles). take i files ++ x ∷ []) (sym is) in
    subst (λ (c : List ℕ). AreStepsTo root (take (i + 1) files) more c) (sym last)
    (subst (λ (us : List Step). AreStepsTo root (take (i + 1) files) us one.file) (sym items)
    (subst (λ (ss : List StepFiles). AreStepsTo root ss (ts ++ t ∷ []) one.file) (sym firsts) (one_more root old (take i files) ts one t so_far step)))

-- .. or that one is refused
pub cut_at :
    (root : List ℕ) (files : List StepFiles) (i : ℕ) (old : List ℕ) (ts : List Step) (one : StepFiles) (refusal : StepRefusal) (r : Result Lineage AllocError)
    → i < length files → one ≡ get_or files i one → AreStepsTo root (take i files) ts old → IsStepRefusal refusal old one
    → IfOk r (λ l. (refusal ≢ Memory) × (l ≡ record { steps = ts; refused = Some refusal })) → IfOk r (IsLineageOf root files)
cut_at root files i old ts one refusal (Err e) within is so_far reason so = tt
cut_at root files i old ts one refusal (Ok l) within is so_far reason so =
    let parts : drop i files ≡ one ∷ drop (i + 1) files = drop_more files i one within ∙ ap (λ (x : StepFiles). x ∷ drop (i + 1) files) (sym is) in
    let all : files ≡ take i files ++ one ∷ drop (i + 1) files = sym (take-append-drop i files) ∙ ap (λ (xs : List StepFiles). take i files ++ xs) parts in
    subst (λ (x : Lineage). IsLineageOf root files x) (sym so.1) (record {
      before = take i files;
      refused = one;
      after = drop (i + 1) files;
      all = all;
      last = old;
      good = so_far;
      no_memory = so.0;
      reason = reason;
    })

-- ---- the files of a step

pub same_files : (s : StepFiles) (f : List ℕ) (r : Option (List ℕ)) (p : List ℕ) → f ≡ s.file → r ≡ s.renewal → p ≡ s.proof → files_of_step f r p ≡ s
same_files s f r p a b c = rw (a, b, c) refl

pub refused_as : {T : Type 0} (r : Result T StepRefusal) (e : StepRefusal) (P : StepRefusal → Type 0) → IsErrAnd r (λ x. x ≡ e) → P e → IfErr r P
refused_as (Ok t) e P is p = tt
refused_as (Err x) e P is p = subst P (sym is) p

-- ---- two lists

-- two good steps of one committee name one payload
one_payload : LightProofsAgree → (old : List ℕ) (s t : StepFiles) → IsSound old s t → IsGoodStep old s → IsGoodStep old t → handover_payload s.file ≡ handover_payload t.file
one_payload agree old s t sound (p, r, a) (q, u, b) =
    let e = sound.evidence in
    let under : (x : LightProof) → ProvesHandover old x → ProvesHandover e.committee x =
    λ x proves. subst (λ (c : List ℕ). ProvesHandover c x) (sym sound.of) proves in
    let same : handover_block p ≡ handover_block q =
    agree e sound.faulty sound.careless p q sound.histories
    a.proof.spelled.is_light_proof (under p a.proof.proves) (sound.first p a.proof.spelled)
    b.proof.spelled.is_light_proof (under q b.proof.proves) (sound.second q b.proof.spelled) in
    sym a.proof.names ∙ (ap (λ (h : Header). h.payload) same ∙ b.proof.names)

pub agree_along : LightProofsAgree → LineagesAgree
agree_along agree root last other [] ts sound a b = tt
agree_along agree root last other (s ∷ ss) [] sound a b = tt
agree_along agree root last other (s ∷ ss) (t ∷ ts) (here, apart, further) (x, a) (y, b) =
    let payload = one_payload agree root s t here x y in
    let file = apart payload in (
      payload,
      file,
      agree_along agree s.file last other ss ts further a (subst (λ (c : List ℕ). ComesToBy c ts other) (sym file) b),
    )
