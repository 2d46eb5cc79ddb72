-- Files that are stored one after the other.
use Rattle.std.proofs.Common.{◌≡◌, ◌+◌, ◌++◌, ◌∷◌, ◌∙◌, ◌<◌, ◌≤◌, ℕ, List, [], Bor, Option, None, Some, Result, Ok, Err, OnOk, ap, append_assoc, arith, get_or, inl, inr, length, refl, subst, sym, take}
use Rattle.std.specs.Prelude.{◌⊎◌, IfErr, IfSome}
use Rattle.std.specs.List.{AllZip}
use Rattle.std.proofs.lemmas.List.{append-nil, length-take-le, take_all, take_more}
use Rattle.audit_evidence.specs.Logs.{ReceivedLog}
use Rattle.parallel_verify.specs.JudgedSources.{IsJudged}
use Rattle.parallel_verify.specs.declared.judging.Judgement.{Judgement}
use Rattle.parallel_verify.specs.declared.judging.Judging.{Judging}
use Rattle.parallel_verify.specs.declared.judging.Judging.TheVariants.{Each}
use Rattle.culprit_search.specs.Reports.{Report}
use Rattle.audit_run.specs.declared.told.SourceTold.{SourceTold}
use Rattle.program_parts.specs.declared.program_fault.ProgramFault.{ProgramFault}
use Rattle.program_tool.specs.AuditFiles.{AreReportsOf, AreReportsOn, AreTried, HasStored, IsReportOn, IsTried, fault_in, first_of, verdict_file, verdict_files}
use Rattle.program_tool.specs.StoredFiles.{Stored, StoredFile, file_at}
use Rattle.program_tool.specs.Strict.{AreFound}
use Rattle.program_tool.specs.Told.{AreTold, AreToldFrom, IsToldOf, word_at}
use Rattle.program_tool.specs.declared.fault.ToolFault.{ToolFault}

-- ---- a store

pub nothing_stored : (a : Option (List StoredFile)) → Stored a a []
nothing_stored None = tt
nothing_stored (Some had) = ap (λ (fs : List StoredFile). Some fs) (sym (append-nil had))

pub stored_more : (a b c : Option (List StoredFile)) (xs ys : List StoredFile) → Stored a b xs → Stored b c ys → Stored a c (xs ++ ys)
stored_more None b c xs ys first second = tt
stored_more (Some had) b c xs ys first second =
    subst (λ (o : Option (List StoredFile)). Stored o c ys) first second ∙ ap (λ (fs : List StoredFile). Some fs) (append_assoc had xs ys)

-- ---- verdicts that are tried

tried_after : (folder : List ℕ) (v : List ℕ) (a b c : Option (List StoredFile)) (fault : Option (ProgramFault ToolFault)) → Stored a b [] → IsTried folder v b c fault → IsTried folder v a c fault
tried_after folder v a b c None nothing tried = stored_more a b c [] (verdict_file folder v ∷ []) nothing tried
tried_after folder v a b c (Some fault) nothing tried = (stored_more a b c [] [] nothing tried.0, tried.1)

first_alone : (fault : Option (ProgramFault ToolFault)) → fault ≡ first_of fault None
first_alone None = refl
first_alone (Some fault) = refl

first_of_three : (a b c : Option (ProgramFault ToolFault)) → first_of (first_of a b) c ≡ first_of a (first_of b c)
first_of_three None b c = refl
first_of_three (Some a) b c = refl

tried_more : (folder : List ℕ) (vs : List (List ℕ)) (v : List ℕ) (a b c : Option (List StoredFile)) (first second : Option (ProgramFault ToolFault))
    → AreTried folder vs a b first → IsTried folder v b c second → AreTried folder (vs ++ v ∷ []) a c (first_of first second)
tried_more folder [] v a b c first second tried one = (
  c,
  second,
  None,
  tried_after folder v a b c second tried.0 one,
  (nothing_stored c, refl),
  ap (λ (f : Option (ProgramFault ToolFault)). first_of f second) tried.1 ∙ first_alone second,
)
tried_more folder (w ∷ ws) v a b c first second tried one = (
  tried.0,
  tried.1,
  first_of tried.2 second,
  tried.3,
  tried_more folder ws v tried.0 b c tried.2 second tried.4 one,
  ap (λ (f : Option (ProgramFault ToolFault)). first_of f second) tried.5 ∙ first_of_three tried.1 tried.2 second,
)

pub tried_next : (folder : List ℕ) (vs : List (List ℕ)) (i : ℕ) (d : List ℕ) (a b c : Option (List StoredFile)) (first second : Option (ProgramFault ToolFault))
    → i < length vs → AreTried folder (take i vs) a b first → IsTried folder (get_or vs i d) b c second → AreTried folder (take (i + 1) vs) a c (first_of first second)
tried_next folder vs i d a b c first second within tried one =
    subst (λ (ws : List (List ℕ)). AreTried folder ws a c (first_of first second)) (sym (take_more vs i d within)) (tried_more folder (take i vs) (get_or vs i d) a b c first second tried one)

-- if there is no fault each is stored
one_stored : (folder : List ℕ) (v : List ℕ) (vs : List (List ℕ)) (a b c : Option (List StoredFile)) (first second : Option (ProgramFault ToolFault))
    → IsTried folder v a b first → (second ≡ None → Stored b c (verdict_files folder vs)) → None ≡ first_of first second → Stored a c (verdict_files folder (v ∷ vs))
one_stored folder v vs a b c None second one rest is = stored_more a b c (verdict_file folder v ∷ []) (verdict_files folder vs) one (rest (sym is))
one_stored folder v vs a b c (Some fault) second one rest is = absurd cc

all_stored : (folder : List ℕ) (vs : List (List ℕ)) (a c : Option (List StoredFile)) (fault : Option (ProgramFault ToolFault)) → fault ≡ None → AreTried folder vs a c fault → Stored a c (verdict_files folder vs)
all_stored folder [] a c fault none tried = tried.0
all_stored folder (v ∷ vs) a c fault none tried =
    one_stored folder v vs a tried.0 c tried.1 tried.2 tried.3 (λ is. all_stored folder vs tried.0 c tried.2 is tried.4) (sym none ∙ tried.5)

ok_stored : {A : Type 0} (folder : List ℕ) (vs : List (List ℕ)) (a c : Option (List StoredFile)) (r : Result A (ProgramFault ToolFault)) → AreTried folder vs a c (fault_in r) → OnOk r (Stored a c (verdict_files folder vs))
ok_stored folder vs a c (Ok x) tried = all_stored folder vs a c None refl tried
ok_stored folder vs a c (Err fault) tried = tt

pub done_stored : {A : Type 0} (folder : List ℕ) (vs vs' : List (List ℕ)) (i : ℕ) (a c : Option (List StoredFile)) (r : Result A (ProgramFault ToolFault)) → length vs ≤ i → vs ≡ vs' → AreTried folder (take i vs) a c (fault_in r)
    → OnOk r (Stored a c (verdict_files folder vs'))
done_stored folder vs vs' i a c r end same tried =
    ok_stored folder vs' a c r (subst (λ (ws : List (List ℕ)). AreTried folder ws a c (fault_in r)) (take_all i vs end ∙ same) tried)

-- ---- the first of two faults

if_some : {A E : Type 0} (P : E → Type 0) (r : Result A E) → IfSome (fault_in r) P → IfErr r P
if_some P (Ok x) p = tt
if_some P (Err fault) p = p

first_if : {A E : Type 0} (P : E → Type 0) (a b : Result A E) → IfErr a P → IfErr b P → IfSome (first_of (fault_in a) (fault_in b)) P
first_if P (Ok x) (Ok y) pa pb = tt
first_if P (Ok x) (Err fault) pa pb = pb
first_if P (Err fault) b pa pb = pa

pub first_or : {A E : Type 0} (P : E → Type 0) (r a b : Result A E) → fault_in r ≡ first_of (fault_in a) (fault_in b) → IfErr a P → IfErr b P → IfErr r P
first_or {E = E} P r a b is pa pb = if_some P r (subst (λ (f : Option E). IfSome f P) (sym is) (first_if P a b pa pb))

pub on_ok : {A E : Type 0} (r : Result A E) (P Q : Type 0) → (P → Q) → OnOk r P → OnOk r Q
on_ok (Ok x) P Q f p = f p
on_ok (Err fault) P Q f p = tt

-- ---- sources that are told

told_more_from : (words : List (Bor (List ℕ))) (i : ℕ) (js : List Judgement) (ts : List SourceTold) (j : Judgement) (t : SourceTold)
    → AreToldFrom words i js ts → IsToldOf (word_at words (i + length js)) j t → AreToldFrom words i (js ++ j ∷ []) (ts ++ t ∷ [])
told_more_from words i [] [] j t told one = (subst (λ (n : ℕ). IsToldOf (word_at words n) j t) (omega arith) one, tt)
told_more_from words i [] (u ∷ us) j t told one = absurd told
told_more_from words i (k ∷ ks) [] j t told one = absurd told
told_more_from words i (k ∷ ks) (u ∷ us) j t told one =
    (told.0, told_more_from words (i + 1) ks us j t told.1 (subst (λ (n : ℕ). IsToldOf (word_at words n) j t) (omega arith) one))

pub told_next : (words : List (Bor (List ℕ))) (js : List Judgement) (ts : List SourceTold) (i : ℕ) (d : Judgement) (t : SourceTold)
    → i < length js → AreTold words (take i js) ts → IsToldOf (word_at words i) (get_or js i d) t → AreTold words (take (i + 1) js) (ts ++ t ∷ [])
told_next words js ts i d t within told one =
    subst (λ (ks : List Judgement). AreTold words ks (ts ++ t ∷ [])) (sym (take_more js i d within))
    (let long : length (take i js) ≡ i = length-take-le i js (omega (arith, within)) in
    told_more_from words 0 (take i js) ts (get_or js i d) t told (subst (λ (n : ℕ). IsToldOf (word_at words n) (get_or js i d) t) (omega (arith, long)) one))

-- ---- all files

-- reports on what was found of logs are of these logs
of_logs : (folder : List ℕ) (words : List (Bor (List ℕ))) (json : Option (Bor (List ℕ))) (status : ℕ) (committee : List ℕ) (logs : List ReceivedLog) (judging : Judging) (judged : List Judgement) (r : Report) (files : List StoredFile)
    → (judging ≡ Each) ⊎ (json ≡ None) → (judging ≡ Each → AllZip (IsJudged committee) logs judged) → AreReportsOn folder words json status committee judged r files → AreReportsOf folder words json status committee logs r files
of_logs folder words None status committee logs judging judged r files asked each on = on
of_logs folder words (Some path) status committee logs judging judged r files asked each on = elim asked [ inl e ↦ (judged, each e, on) | inr none ↦ absurd cc ]

-- the report was stored, if there is to be one
pub report_stored : (folder : List ℕ) (words : List (Bor (List ℕ))) (json : Option (Bor (List ℕ))) (path : Bor (List ℕ)) (status : ℕ) (committee : List ℕ) (judged : List Judgement) (r : Report) (a c : Option (List StoredFile)) (bytes : List ℕ)
    → json ≡ Some path → IsReportOn folder words status committee judged r bytes → Stored a c (file_at path.now bytes ∷ []) → (x : List StoredFile) × Stored a c x × AreReportsOn folder words json status committee judged r x
report_stored folder words json path status committee judged r a c bytes is on stored =
    subst (λ (j : Option (Bor (List ℕ))). (x : List StoredFile) × Stored a c x × AreReportsOn folder words j status committee judged r x) (sym is) (file_at path.now bytes ∷ [], stored, (bytes, on, refl))

-- verdicts, and then the report
pub both_stored : (folder : List ℕ) (words : List (Bor (List ℕ))) (json : Option (Bor (List ℕ))) (status : ℕ) (committee : List ℕ) (judged : List Judgement) (r : Report) (vs : List (List ℕ)) (a b c : Option (List StoredFile))
    → Stored a b (verdict_files folder vs) → (x : List StoredFile) × Stored b c x × AreReportsOn folder words json status committee judged r x
    → (x : List StoredFile) × Stored a c (verdict_files folder vs ++ x) × AreReportsOn folder words json status committee judged r x
both_stored folder words json status committee judged r vs a b c verdicts report = (report.0, stored_more a b c (verdict_files folder vs) report.0 verdicts report.1, report.2)

-- what was stored of an audit that found this is of its logs and its report
pub filed : (folder : List ℕ) (words : List (Bor (List ℕ))) (json : Option (Bor (List ℕ))) (status : ℕ) (committee : List ℕ) (logs : List ReceivedLog) (judging : Judging) (judged : List Judgement) (report r : Report) (a c : Option (List StoredFile)) (reports : List StoredFile)
    → (judging ≡ Each) ⊎ (json ≡ None) → AreFound judging judged report committee logs r → Stored a c (verdict_files folder report.verdicts ++ reports) → AreReportsOn folder words json status committee judged report reports
    → HasStored (Stored a c) folder words json status committee logs r
filed folder words json status committee logs judging judged report r a c reports asked found stored on =
    subst (λ (x : Report). HasStored (Stored a c) folder words json status committee logs x) (sym found.is)
    (reports, stored, of_logs folder words json status committee logs judging judged report reports asked found.each on)
