-- How the parts of sources are joined.
use Rattle.std.proofs.Common.{◌≡◌, ◌↔◌, ◌∙◌, ◌<◌, ◌≤◌, ◌+◌, ℕ, zero, suc, List, [], ◌∷◌, ◌++◌, length, take, get_or, Result, Ok, Err, inl, inr, refl, sym, subst, arith}
use Rattle.std.specs.Prelude.{IfOk, IfErr, OnOk}
use Rattle.std.specs.List.{AllZip, Contains}
use Rattle.std.proofs.lemmas.List.{take_all}
use Rattle.blocks.specs.Headers.{Header}
use Rattle.blocks.specs.Genesis.{genesis_of}
use Rattle.certificates.specs.declared.vote.SignedVote.{SignedVote}
use Rattle.log_format.specs.declared.status.Status.TheVariants.{Failed}
use Rattle.audit_evidence.specs.Evidence.{IsEvidenceRefusal, IsHeaderInEvidence, IsReportOf}
use Rattle.audit_evidence.specs.Gathering.{Gathered, Grows, IsGatheringRefusal, IsUnion}
use Rattle.audit_evidence.specs.Logs.{ReceivedLog, LogNamesVote}
use Rattle.audit_evidence.specs.NamedVotes.{all_votes}
use Rattle.audit_evidence.specs.Sets.{InSome}
use Rattle.audit_evidence.specs.declared.refusal.EvidenceRefusal.{EvidenceRefusal}
use Rattle.audit_evidence.specs.declared.source.SourceReport.{SourceReport}
use Rattle.audit_evidence.proofs.Gatherings.{fault_as, fault_at, grown_as, grown_step, zip_length, zip_more}
use Rattle.parallel_verify.specs.Parts.{IsJoined, IsPartOn, Part, PartHasHeader}

-- ---- one part

pub part_joined : (r : Result SourceReport EvidenceRefusal) (a b : Gathered) (p : Part) → OnOk r (Grows a b (Contains p.headers) (Contains (all_votes p.votes p.certificates)))
    → IfOk r (λ x. x ≡ p.report) → IfOk r (λ x. (l : ReceivedLog) → IsPartOn a.committee l p → IsJoined a b l x)
part_joined (Err e) a b p grown report = tt
part_joined (Ok x) a b p grown report = λ l part. record {
  grown = grown_as a b _ _ _ _ part.headers part.votes grown;
  report = subst (λ (y : SourceReport). IsReportOf l y) (sym report) part.report;
}

pub part_fault : (r : Result SourceReport EvidenceRefusal) (a : Gathered) (p : Part) → IfErr r (IsGatheringRefusal a (Contains p.headers))
    → IfErr r (λ e. (l : ReceivedLog) → IsPartOn a.committee l p → IsGatheringRefusal a (PartHasHeader a.committee l) e)
part_fault (Ok x) a p fault = tt
part_fault (Err e) a p fault = λ l part. fault_as _ _ e (λ h w. elim w [ inl o ↦ inl o | inr i ↦ inr ((part.headers h).0 i) ]) fault

-- ---- all of them

pub no_log : ReceivedLog
no_log = record { replica = 0; frames = []; status = Failed }

pub zip_at : {A B : Type 0} (R : A → B → Type 0) (xs : List A) (ys : List B) (i : ℕ) (d : A) (e : B) → AllZip R xs ys → i < length ys → R (get_or xs i d) (get_or ys i e)
zip_at R [] [] i d e zip l = absurd (omega arith)
zip_at R [] (y ∷ ys) i d e zip l = absurd zip
zip_at R (x ∷ xs) [] i d e zip l = absurd zip
zip_at R (x ∷ xs) (y ∷ ys) zero d e zip l = zip.0
zip_at R (x ∷ xs) (y ∷ ys) (suc i) d e zip l = zip_at R xs ys i d e zip.1 (omega arith)

abbrev pub ArePartsOn : List ℕ → List ReceivedLog → List Part → Type 0
ArePartsOn committee logs parts = AllZip (IsPartOn committee) logs parts

abbrev pub AllGrown : (committee : List ℕ) → (a b : Gathered) → List ReceivedLog → Type 0
AllGrown committee a b logs = Grows a b (InSome (PartHasHeader committee) logs) (InSome LogNamesVote logs)

module _ (committee : List ℕ) (logs : List ReceivedLog) (parts : List Part) (zip : ArePartsOn committee logs parts) (a b : Gathered) (under : a.committee ≡ committee) (i : ℕ) (so_far : AllGrown committee a b (take i logs)) where
  -- what the next part shows
  pub next_part : (x : Part) → i < length parts → x ≡ get_or parts i x → IsPartOn b.committee (get_or logs i no_log) x
  next_part x l is =
      subst (λ (k : List ℕ). IsPartOn k (get_or logs i no_log) x) (sym (so_far.committee ∙ under))
      (subst (λ (r : Part). IsPartOn committee (get_or logs i no_log) r) (sym is) (zip_at (IsPartOn committee) logs parts i no_log x zip l))

  pub joined_more : (c : Gathered) (r : SourceReport) → i < length parts → IsJoined b c (get_or logs i no_log) r → AllGrown committee a c (take (i + 1) logs)
  joined_more c r l step =
      let size = zip_length (IsPartOn committee) logs parts zip in
      grown_step a b c (PartHasHeader committee) LogNamesVote logs i (get_or logs i no_log) no_log (omega (arith, size)) refl so_far
      (subst (λ (k : List ℕ). Grows b c (PartHasHeader k (get_or logs i no_log)) (LogNamesVote (get_or logs i no_log))) (so_far.committee ∙ under) step.grown)

  pub report_more : (c : Gathered) (rs : List SourceReport) (r : SourceReport) → i < length parts → AllZip IsReportOf (take i logs) rs → IsJoined b c (get_or logs i no_log) r
      → AllZip IsReportOf (take (i + 1) logs) (rs ++ r ∷ [])
  report_more c rs r l reports step =
      let size = zip_length (IsPartOn committee) logs parts zip in
      zip_more IsReportOf logs rs i no_log r (omega (arith, size)) reports step.report

  -- a fault is one of the whole
  pub joined_fault : (e : EvidenceRefusal) → ((h : Header) → Contains a.headers h ↔ (h ≡ genesis_of committee)) → i < length parts → IsGatheringRefusal b (PartHasHeader b.committee (get_or logs i no_log)) e → IsEvidenceRefusal (IsHeaderInEvidence committee logs) e
  joined_fault e headers l fault =
      let size = zip_length (IsPartOn committee) logs parts zip in
      let x = get_or logs i no_log in
      fault_as _ _ e (λ h w. elim w [ inl o ↦ inl ((headers h).0 o) | inr k ↦ elim k.2 [ inl g ↦ inl g | inr s ↦ inr (k.0, k.1, s) ] ])
      (fault_at a b (PartHasHeader committee) (InSome LogNamesVote (take i logs)) logs i x no_log e (omega (arith, size)) refl so_far
      (subst (λ (k : List ℕ). IsGatheringRefusal b (PartHasHeader k x) e) (so_far.committee ∙ under) fault))

no_votes : (vs : List SignedVote) (v : SignedVote) → vs ≡ [] → Contains vs v → ⊥
no_votes vs v none c = let i = subst (λ (ws : List SignedVote). Contains ws v) none c in let l = i.1 in absurd (omega arith)

pub union_of_logs : (committee : List ℕ) (logs : List ReceivedLog) (parts : List Part) (a b : Gathered) (i : ℕ) → ArePartsOn committee logs parts → length parts ≤ i → a.committee ≡ committee
    → ((h : Header) → Contains a.headers h ↔ (h ≡ genesis_of committee)) → a.votes ≡ [] → AllGrown committee a b (take i logs) → IsUnion committee logs b
union_of_logs committee logs parts a b i zip l under headers none grown =
    let size = zip_length (IsPartOn committee) logs parts zip in
    let all : AllGrown committee a b logs = subst (λ (ls : List ReceivedLog). AllGrown committee a b ls) (take_all i logs (omega (arith, size))) grown in
    let g = all in
    record {
      under = g.committee ∙ under;
      headers = λ x. (
        λ c. elim ((g.headers x).0 c) [ inl o ↦ inl ((headers x).0 o) | inr k ↦ elim k.2 [ inl e ↦ inl e | inr s ↦ inr (k.0, k.1, s) ] ],
        λ w. (g.headers x).1 (elim w [ inl e ↦ inl ((headers x).1 e) | inr k ↦ inr (k.0, k.1, inr k.2) ]),
      );
      votes = λ x. (
        λ c. elim ((g.votes x).0 c) [ inl o ↦ absurd (no_votes a.votes x none o) | inr k ↦ k ],
        λ k. (g.votes x).1 (inr k),
      );
    }
