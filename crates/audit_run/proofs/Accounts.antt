-- Where complete sources prove a conflict, a run of the audit accounts for it.
use Rattle.std.proofs.Common.{◌≡◌, ◌↔◌, ◌⊎◌, ◌∙◌, ℕ, List, [], ◌∷◌, Bool, true, false, ◌||◌, Option, Some, None, Result, Ok, Err, inl, inr, refl, sym, ap, subst, arith}
use Rattle.std.specs.Prelude.{IfErr, IfOk, IsErrAnd, IsSome, MatchResult}
use Rattle.std.specs.List.{All, AllZip, Contains, list_any}
use Rattle.std.proofs.lemmas.List.Elements.{Contains-append_left}
use Rattle.blocks.specs.Chains.{Conflict, IsAncestor, IsChainIn, IsLinked}
use Rattle.blocks.specs.Committees.{IsCommittee}
use Rattle.blocks.specs.Genesis.{genesis_of}
use Rattle.blocks.specs.Headers.{Header, header_id}
use Rattle.blocks.specs.Weights.{Committee, committee_of}
use Rattle.blocks.proofs.CommitteeLaws.{committee_again}
use Rattle.blocks.proofs.Members.{Has, Contains-from_Has, Has-from_Contains}
use Rattle.certificates.specs.declared.vote.SignedVote.{SignedVote}
use Rattle.log_format.specs.ReadingLaws.{AreFirstOf}
use Rattle.log_format.specs.declared.status.Status.TheVariants.{Failed}
use Rattle.log_transfer.specs.Complete.{GivesItsLog}
use Rattle.log_transfer.specs.Connections.{Connection}
use Rattle.verdict_format.specs.Proofs.{IsProof}
use Rattle.audit_evidence.specs.Evidence.{Evidence, IsEvidence, IsEvidenceOf, IsEvidenceRefusal, IsHeaderInEvidence, IsReportOf, IsVoteInEvidence}
use Rattle.audit_evidence.specs.Logs.{ReceivedLog, FrameHasHeader, FrameHasVote, LogHasHeader, LogHasVote}
use Rattle.audit_evidence.specs.Sets.{InSome}
use Rattle.audit_evidence.specs.declared.refusal.EvidenceRefusal.TheVariants.{Collision as Colliding}
use Rattle.audit_evidence.specs.declared.source.SourceReport.{SourceReport}
use Rattle.log_transfer.specs.declared.connector.Connector.{Ghosts}
use Rattle.parallel_verify.specs.Collections.{MayFail, MayGive}
use Rattle.parallel_verify.specs.Readings.{Tells, sources_of}
use Rattle.parallel_verify.specs.declared.judging.Judging.{Judging}
use Rattle.parallel_verify.specs.declared.source.Observed.{Observed}
use Rattle.parallel_verify.specs.declared.source.Source.{Source}
use Rattle.audit_commits.specs.Commits.{IsCertified, IsProvedCommit, Stands, has_vote}
use Rattle.audit_commits.proofs.Weights.{list_any-Has, weight_more}
use Rattle.culprit_search.specs.Reports.{AreMoreThanAThird, IsAudit, IsConflictOf, Report}
use Rattle.culprit_search.specs.declared.report.Conflict.{Conflict as ConflictOf}
use Rattle.audit_run.specs.Runs.{AccusesMoreThanAThird, HaveFailed, IsAccounted, IsAuditRun, IsCompleteSource, IsJudgedRun, IsMemoryOrSink, IsRunRefusal, ProveAConflict}
use Rattle.audit_run.specs.declared.run.Findings.{Findings}
use Rattle.audit_run.specs.declared.run_error.RunError.{RunError}
use Rattle.audit_run.specs.declared.run_error.RunError.TheVariants.{Memory, Committee as NoCommittee, Collision, Sink}

-- ---- lists in step

zip_has : {A B : Type 0} (R : A → B → Type 0) (xs : List A) (ys : List B) → AllZip R xs ys → (a : A) → Has xs a → (b : B) × Has ys b × R a b
zip_has R [] [] zip a h = absurd h
zip_has R [] (y ∷ ys) zip a h = absurd zip
zip_has R (x ∷ xs) [] zip a h = absurd zip
zip_has {A} R (x ∷ xs) (y ∷ ys) zip a h =
    elim h [
      | inl e ↦ (y, inl refl, subst (λ (z : A). R z y) e zip.0)
      | inr m ↦ let w = zip_has R xs ys zip.1 a m in (w.0, inr w.1, w.2)
    ]

zip_contains : {A B : Type 0} (R : A → B → Type 0) (xs : List A) (ys : List B) → AllZip R xs ys → (a : A) → Contains xs a → (b : B) × Contains ys b × R a b
zip_contains R xs ys zip a c = let w = zip_has R xs ys zip a (Has-from_Contains xs a c) in (w.0, Contains-from_Has ys w.0 w.1, w.2)

zip_some : {A B K : Type 0} (R : A → B → Type 0) (Shows : A → K → Type 0) (Gives : B → K → Type 0) (k : K) → ((a : A) (b : B) → R a b → Shows a k → Gives b k) → (xs : List A) (ys : List B) → AllZip R xs ys
    → InSome Shows xs k → InSome Gives ys k
zip_some R Shows Gives k step xs ys zip w = let b = zip_contains R xs ys zip w.0 w.1 in (b.0, b.1, step w.0 b.0 b.2 w.2)

zip_both : {S A B : Type 0} (P : S → A → Type 0) (Q : S → B → Type 0) (R : A → B → Type 0) → ((s : S) (a : A) (b : B) → P s a → Q s b → R a b) → (ss : List S) (xs : List A) (ys : List B)
    → AllZip P ss xs → AllZip Q ss ys → AllZip R xs ys
zip_both P Q R step [] [] [] p q = tt
zip_both P Q R step [] (x ∷ xs) ys p q = absurd p
zip_both P Q R step [] [] (y ∷ ys) p q = absurd q
zip_both P Q R step (s ∷ ss) [] ys p q = absurd p
zip_both P Q R step (s ∷ ss) (x ∷ xs) [] p q = absurd q
zip_both P Q R step (s ∷ ss) (x ∷ xs) (y ∷ ys) p q = (step s x y p.0 q.0, zip_both P Q R step ss xs ys p.1 q.1)

-- ---- what came of a log

-- the first of the log came, and all of it where the source did not fail
pub record IsCutOf (l w : ReceivedLog) : Type 0 where
  pub replica : l.replica ≡ w.replica
  pub first : AreFirstOf l.frames w.frames
  pub answer : (l.frames ≡ w.frames) ⊎ (l.status ≡ Failed)

record IsSameAs (l w : ReceivedLog) : Type 0 where
  replica : l.replica ≡ w.replica
  frames : l.frames ≡ w.frames

pub cut_of_source : {C : Type 0} (gives : C → ℕ → ℕ → ℕ → Connection → Type 0) → ((c : C) → GivesItsLog (gives c)) → (s : Source C) (l w : ReceivedLog) → MayGive gives s l → IsCompleteSource gives s w → IsCutOf l w
cut_of_source gives law s l w is complete =
    let r = law s.connector s.tries w.frames l.frames l.status complete.log complete.complete is.fetched in
    record { replica = is.of ∙ sym complete.of; first = r.0; answer = elim r.1 [ inl whole ↦ inl whole.1 | inr failed ↦ inr failed ] }

failed_or_same : (ls ws : List ReceivedLog) → AllZip IsCutOf ls ws → ((l : ReceivedLog) × Has ls l × (l.status ≡ Failed)) ⊎ AllZip IsSameAs ls ws
failed_or_same [] [] zip = inr tt
failed_or_same [] (w ∷ ws) zip = absurd zip
failed_or_same (l ∷ ls) [] zip = absurd zip
failed_or_same (l ∷ ls) (w ∷ ws) zip =
    elim zip.0.answer [
      | inr failed ↦ inl (l, inl refl, failed)
      | inl same ↦ elim (failed_or_same ls ws zip.1) [
        | inl x ↦ inl (x.0, inr x.1, x.2)
        | inr rest ↦ inr (record { replica = zip.0.replica; frames = same }, rest)
      ]
    ]

cut_header : (h : Header) (l w : ReceivedLog) → IsCutOf l w → LogHasHeader l h → LogHasHeader w h
cut_header h l w cut x = (x.0, subst (λ (fs : List (List ℕ)). Contains fs x.0) (sym cut.first.1) (Contains-append_left l.frames cut.first.0 x.0 x.1), x.2)

same_header : (h : Header) (l w : ReceivedLog) → IsSameAs l w → LogHasHeader l h → LogHasHeader w h
same_header h l w same x = subst (λ (fs : List (List ℕ)). InSome FrameHasHeader fs h) same.frames x

same_vote : (committee : List ℕ) (v : SignedVote) (l w : ReceivedLog) → IsSameAs l w → LogHasVote committee l v → LogHasVote committee w v
same_vote committee v l w same x =
    subst (λ (fs : List (List ℕ)). InSome (FrameHasVote committee w.replica) fs v) same.frames (subst (λ (r : ℕ). InSome (FrameHasVote committee r) l.frames v) same.replica x)

same_back : (l w : ReceivedLog) → IsSameAs w l → IsSameAs l w
same_back l w same = record { replica = sym same.replica; frames = sym same.frames }

zip_same_back : (ls ws : List ReceivedLog) → AllZip IsSameAs ls ws → AllZip IsSameAs ws ls
zip_same_back [] [] zip = tt
zip_same_back [] (w ∷ ws) zip = absurd zip
zip_same_back (l ∷ ls) [] zip = absurd zip
zip_same_back (l ∷ ls) (w ∷ ws) zip = (same_back w l zip.0, zip_same_back ls ws zip.1)

cut_headers : (committee : List ℕ) (ls ws : List ReceivedLog) → AllZip IsCutOf ls ws → (h : Header) → IsHeaderInEvidence committee ls h → IsHeaderInEvidence committee ws h
cut_headers committee ls ws zip h x = elim x [ inl g ↦ inl g | inr s ↦ inr (zip_some IsCutOf LogHasHeader LogHasHeader h (cut_header h) ls ws zip s) ]

same_headers : (committee : List ℕ) (ls ws : List ReceivedLog) → AllZip IsSameAs ls ws → (h : Header) → IsHeaderInEvidence committee ls h → IsHeaderInEvidence committee ws h
same_headers committee ls ws zip h x = elim x [ inl g ↦ inl g | inr s ↦ inr (zip_some IsSameAs LogHasHeader LogHasHeader h (same_header h) ls ws zip s) ]

same_votes : (committee : List ℕ) (ls ws : List ReceivedLog) → AllZip IsSameAs ls ws → (v : SignedVote) → IsVoteInEvidence committee ls v → IsVoteInEvidence committee ws v
same_votes committee ls ws zip v s = zip_some IsSameAs (LogHasVote committee) (LogHasVote committee) v (same_vote committee v) ls ws zip s

-- ---- evidence with the same members

has_any : {X : Type 0} (p : X → Bool) (ys : List X) (x : X) → Has ys x → p x ≡ true → list_any p ys ≡ true
has_any p [] x h t = absurd h
has_any p (y ∷ ys) x h t =
    elim h [
      | inl e ↦ ap (λ (b : Bool). b || list_any p ys) (ap p e ∙ t)
      | inr m ↦ ap (λ (b : Bool). p y || b) (has_any p ys x m t) ∙ elim (p y) as (λ b. (b || true) ≡ true) [ true ↦ refl | false ↦ refl ]
    ]

any_in : {X : Type 0} (p : X → Bool) (xs ys : List X) → ((x : X) → Contains xs x → Contains ys x) → list_any p xs ≡ true → list_any p ys ≡ true
any_in p xs ys sub t = let f = list_any-Has p xs t in has_any p ys f.0 (Has-from_Contains ys f.0 (sub f.0 (Contains-from_Has xs f.0 f.1))) f.2

module _ (c : Committee) (w e : Evidence) (hs : (h : Header) → Contains w.headers h ↔ Contains e.headers h) (vs : (v : SignedVote) → Contains w.votes v → Contains e.votes v) where
  certified : (b : Header) → IsCertified c w b → IsCertified c e b
  unfolding IsCertified
  certified b q =
      let more = weight_more c.weight (has_vote w.votes b.view (header_id b)) (has_vote e.votes b.view (header_id b)) c.size (λ r l t. any_in _ w.votes e.votes vs t) in
      omega (arith, q, more)

  stands : (b : Header) → Stands c w b → Stands c e b
  stands b s = record { known = (hs b).0 s.known; certified = λ n. certified b (s.certified n) }

  proved : (b : Header) → IsProvedCommit c w b → IsProvedCommit c e b
  proved b p = record {
    no_genesis = p.no_genesis;
    chain = p.chain;
    is_chain = p.is_chain;
    chain_stands = λ h x. stands h (p.chain_stands h x);
    second = p.second;
    second_parent = p.second_parent;
    second_view = p.second_view;
    second_stands = stands p.second p.second_stands;
    third = p.third;
    third_parent = p.third_parent;
    third_view = p.third_view;
    third_stands = stands p.third p.third_stands;
  }

chain_in : (ks hs : List Header) → ((h : Header) → Contains ks h → Contains hs h) → (g b : Header) (ps : List Header) → IsChainIn ks g b ps → IsChainIn hs g b ps
chain_in ks hs sub g b ps x = (x.0, λ h m. sub h (x.1 h m))

linked_in : (ks hs : List Header) → ((h : Header) → Contains ks h → Contains hs h) → (g b : Header) → IsLinked ks g b → IsLinked hs g b
linked_in ks hs sub g b x = (x.0, chain_in ks hs sub g b x.0 x.1)

ancestor_in : (ks hs : List Header) → ((h : Header) → Contains ks h → Contains hs h) → (g a b : Header) → IsAncestor ks g a b → IsAncestor hs g a b
ancestor_in ks hs sub g a b x = (x.0, chain_in ks hs sub g b x.0 x.1, x.2)

conflict_in : (ks hs : List Header) → ((h : Header) → Contains ks h ↔ Contains hs h) → (g a b : Header) → Conflict ks g a b → Conflict hs g a b
conflict_in ks hs same g a b x = record {
  first_linked = linked_in ks hs (λ h. (same h).0) g a x.first_linked;
  second_linked = linked_in ks hs (λ h. (same h).0) g b x.second_linked;
  differ = x.differ;
  not_below = λ y. x.not_below (ancestor_in hs ks (λ h. (same h).1) g a b y);
  not_above = λ y. x.not_above (ancestor_in hs ks (λ h. (same h).1) g b a y);
}

-- ---- the run

conflict_found : (e : Evidence) (found : Option ConflictOf) → IsConflictOf e found → (a b : Header) → IsProvedCommit (committee_of e.committee) e a → IsProvedCommit (committee_of e.committee) e b
    → Conflict e.headers (committee_of e.committee).genesis a b → IsSome found
conflict_found e None is a b p q k = absurd (is a b p q k)
conflict_found e (Some c) is a b p q k = refl

module _ (committee : List ℕ) (ls ws : List ReceivedLog) (zip : AllZip IsCutOf ls ws) (prove : ProveAConflict committee ws) where
  -- no two different headers that came have one id
  pub no_collision : (h k : Header) → IsEvidenceRefusal (IsHeaderInEvidence committee ls) (Colliding h k) → ⊥
  no_collision h k fault =
      let in_all : (x : Header) → IsHeaderInEvidence committee ls x → Contains prove.e.headers x = λ x m. (prove.of.headers x).1 (cut_headers committee ls ws zip x m) in
      fault.2 (prove.ids h k (in_all h fault.0) (in_all k fault.1) fault.3)

  failed_source : (e : Evidence) → IsEvidenceOf committee ls e → (l : ReceivedLog) → Has ls l → l.status ≡ Failed → HaveFailed e.sources
  failed_source e of l has failed =
      let r = zip_contains IsReportOf ls e.sources of.reports l (Contains-from_Has ls l has) in
      (r.0, r.1, r.2.status ∙ failed)

  same_conflict : (e : Evidence) (r : Report) → IsEvidenceOf committee ls e → IsAudit e r → AllZip IsSameAs ls ws → IsSome r.conflict
  same_conflict e r of audit same =
      let w = prove.e in
      let hs : (h : Header) → Contains w.headers h ↔ Contains e.headers h = λ h. (
        λ c. (of.headers h).1 (same_headers committee ws ls (zip_same_back ls ws same) h ((prove.of.headers h).0 c)),
        λ c. (prove.of.headers h).1 (same_headers committee ls ws same h ((of.headers h).0 c)),
      ) in
      let vs : (v : SignedVote) → Contains w.votes v → Contains e.votes v = λ v c. (of.votes v).1 (same_votes committee ws ls (zip_same_back ls ws same) v ((prove.of.votes v).0 c)) in
      let under : committee ≡ e.committee = sym of.under in
      conflict_found e r.conflict audit.conflict prove.first prove.second
      (subst (λ (k : List ℕ). IsProvedCommit (committee_of k) e prove.first) under (proved (committee_of committee) w e hs vs prove.first prove.first_proved))
      (subst (λ (k : List ℕ). IsProvedCommit (committee_of k) e prove.second) under (proved (committee_of committee) w e hs vs prove.second prove.second_proved))
      (subst (λ (k : List ℕ). Conflict e.headers (genesis_of k) prove.first prove.second) under (conflict_in w.headers e.headers hs (genesis_of committee) prove.first prove.second prove.conflict))

  pub accounted : (e : Evidence) (r : Report) → IsEvidenceOf committee ls e → IsAudit e r → (IsSome r.conflict → AreMoreThanAThird e.committee r) → All (IsProof e.committee) r.verdicts → IsAccounted committee e r
  accounted e r of audit many proofs =
      elim (failed_or_same ls ws zip) as (λ _. IsAccounted committee e r) [
        | inl x ↦ inl (failed_source e of x.0 x.1 x.2)
        | inr same ↦ inr (subst (λ (k : List ℕ). AccusesMoreThanAThird k r) of.under (record { many = many (same_conflict e r of audit same); weight = audit.weight; apart = audit.verdicts.rising; proofs = proofs }))
      ]

module _ {S : Type 0} (Gives Complete : S → ReceivedLog → Type 0) (step : (s : S) (l w : ReceivedLog) → Gives s l → Complete s w → IsCutOf l w) (committee : List ℕ) (ss : List S) (ws : List ReceivedLog) (complete : AllZip Complete ss ws) (prove : ProveAConflict committee ws) where
  -- a report of logs that the sources gave
  pub reading_accounted : (ls : List ReceivedLog) → AllZip Gives ss ls → (e : Evidence) (r : Report) → IsEvidenceOf committee ls e → IsAudit e r → (IsSome r.conflict → AreMoreThanAThird e.committee r) → All (IsProof e.committee) r.verdicts → IsAccounted committee e r
  reading_accounted ls given e r of audit many proofs = accounted committee ls ws (zip_both Gives Complete IsCutOf step ss ls ws given complete) prove e r of audit many proofs

  -- no report
  refused_as : (x : RunError) → IsCommittee committee → IsRunRefusal Gives committee ss x → IsMemoryOrSink x
  refused_as Memory is fault = inl refl
  refused_as Sink is fault = inr refl
  refused_as (NoCommittee refusal) is fault = absurd (ok_or_err (sym (committee_again is.members committee is.spelled) ∙ fault))
    where
      ok_or_err : {A E : Type 0} {a : A} {e : E} → Ok a ≡ Err e → ⊥
      ok_or_err same = cc
  refused_as (Collision h k) is fault =
      let two = fault.1 in
      absurd (no_collision committee two.logs ws (zip_both Gives Complete IsCutOf step ss two.logs ws two.given complete) prove h k two.collision)

  pub refused_accounted : {A : Type 0} (P : A → Type 0) (result : Result A RunError) (x : RunError) → IsCommittee committee → IsErrAnd result (λ y. y ≡ x) → IsRunRefusal Gives committee ss x → MatchResult result P IsMemoryOrSink
  refused_accounted P (Ok r) x is same fault = absurd same
  refused_accounted P (Err y) x is same fault = subst IsMemoryOrSink (sym same) (refused_as x is fault)

-- a run over sources that were observed is one over the sources
pub run_of : {C O : Type 0} (connector : Ghosts C) (told : Tells O) (committee : List ℕ) (judging : Judging) (os : List (Observed C O)) (ss : List (Source C)) (a : Findings) (after : List O) → sources_of os ≡ ss → IsJudgedRun connector told committee judging os a after
    → IsAuditRun (MayGive connector.gives) (MayFail connector.reaches connector.failed) committee ss a.evidence a.report
run_of {C} connector told committee judging os ss a after same run =
    subst (λ (xs : List (Source C)). IsAuditRun (MayGive connector.gives) (MayFail connector.reaches connector.failed) committee xs a.evidence a.report) same (record {
      under = run.under;
      evidence = record { logs = run.reading.logs; given = run.reading.given; evidence = run.reading.evidence };
      sound = run.sound;
      caused = run.reading.caused;
      audit = run.audit;
    })
