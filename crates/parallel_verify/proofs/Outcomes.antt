-- What the threads of all sources gave, as one reading.
use Rattle.std.proofs.Common.{◌≡◌, ◌∙◌, ◌<◌, ◌++◌, ℕ, suc, List, [], ◌∷◌, length, Some, Result, Ok, Err, inl, inr, refl, sym, ap, subst, arith}
use Rattle.std.specs.Prelude.{IfOk, slice_index_or}
use Rattle.std.specs.List.{All, AllZip, Contains}
use Rattle.std.proofs.lemmas.List.Elements.{All-cons, All-head, All-nil, All-tail, Contains-append_right}
use Rattle.blocks.proofs.Members.{Has, Contains-from_Has, Has-from_Contains}
use Rattle.certificates.specs.declared.vote.SignedVote.{SignedVote}
use Rattle.log_transfer.specs.declared.connector.Connector.{Ghosts}
use Rattle.audit_evidence.specs.Evidence.{IsEvidenceRefusal, IsHeaderInEvidence}
use Rattle.audit_evidence.specs.Logs.{ReceivedLog}
use Rattle.audit_evidence.specs.declared.refusal.EvidenceRefusal.{EvidenceRefusal}
use Rattle.audit_evidence.specs.declared.refusal.EvidenceRefusal.TheVariants.{Memory, Collision}
use Rattle.audit_evidence.specs.declared.source.SourceReport.{SourceReport}
use Rattle.audit_evidence.proofs.Gatherings.{fault_as}
use Rattle.parallel_verify.specs.Collections.{IsRefusalOfSources, MayBeTried, MayFail, MayGive}
use Rattle.parallel_verify.specs.JudgedSources.{IsJudged, SeparatesBad}
use Rattle.parallel_verify.specs.Parts.{HasReport, IsPartOn, IsResultOn, Part, PartHasHeader}
use Rattle.parallel_verify.specs.Readings.{AreGathered, IsCausedPart, IsJudgedBy, IsOutcome, IsRefusedAmong, MayBeTriedIn, Tells, sources_of}
use Rattle.parallel_verify.specs.declared.judging.Judgement.{Judgement}
use Rattle.parallel_verify.specs.declared.source.Observed.{Observed}
use Rattle.parallel_verify.specs.declared.source.Source.{Source}

pub zip_of_each : {A B : Type 0} (R : A → B → Type 0) (xs : List A) (ys : List B) → length ys ≡ length xs → ((i : ℕ) (s : A) (d : B) → i < length xs → R (slice_index_or xs i s) (slice_index_or ys i d)) → AllZip R xs ys
zip_of_each R [] [] size each = tt
zip_of_each R [] (y ∷ ys) size each = absurd (omega (arith, size))
zip_of_each R (x ∷ xs) [] size each = absurd (omega (arith, size))
zip_of_each R (x ∷ xs) (y ∷ ys) size each = (each 0 x y (omega arith), zip_of_each R xs ys (omega (arith, size)) (λ i s d l. each (suc i) s d (omega arith)))

module _ {C O : Type 0} (connector : Ghosts C) (told : Tells O) (committee : List ℕ) where
  abbrev pub Out : Type 0
  Out = Result Part EvidenceRefusal × O

  -- all parts are there
  pub gathered_all : (ss : List (Observed C O)) (outs : List Out) (ps : List Part) (os : List O) → AllZip (IsOutcome connector told committee) ss outs → AllZip (λ (out : Out) p. out.0 ≡ Ok p) outs ps
      → AllZip (λ (out : Out) o. out.1 ≡ o) outs os → AreGathered connector told committee ss ps os
  gathered_all [] [] [] [] zip parts observers = record { logs = []; given = tt; parts = tt; caused = tt; seen = tt }
  gathered_all [] [] [] (o ∷ os) zip parts observers = absurd observers
  gathered_all [] [] (p ∷ ps) os zip parts observers = absurd parts
  gathered_all [] (out ∷ outs) ps os zip parts observers = absurd zip
  gathered_all (s ∷ ss) [] ps os zip parts observers = absurd zip
  gathered_all (s ∷ ss) (out ∷ outs) [] os zip parts observers = absurd parts
  gathered_all (s ∷ ss) (out ∷ outs) (p ∷ ps) [] zip parts observers = absurd observers
  gathered_all (s ∷ ss) (out ∷ outs) (p ∷ ps) (o ∷ os) zip parts observers =
      let one = zip.0 in
      let rest = gathered_all ss outs ps os zip.1 parts.1 observers.1 in
      let is : out.0 ≡ Ok p = parts.0 in
      record {
        logs = one.log ∷ rest.logs;
        given = (one.of, rest.given);
        parts = (subst (λ (r : Result Part EvidenceRefusal). IsResultOn committee one.log r) is one.result, rest.parts);
        caused = (subst (λ (r : Result Part EvidenceRefusal). IfOk r (IsCausedPart connector s.source)) is one.cause, rest.caused);
        seen = (
          subst (λ (x : O). told s.observer x one.log.frames (Some one.log.status)) observers.0
              (subst (λ (r : Result Part EvidenceRefusal). IfOk r (λ y. told s.observer out.1 one.log.frames (Some one.log.status))) is one.seen),
          rest.seen,
        );
      }

  pub all_gathered : {P : Type 0} (ss : List (Observed C O)) (outs : List Out) → AllZip (IsOutcome connector told committee) ss outs
      → {E : Type 0} (r : Result P E) (parts : P → List Part) (observers : P → List O) → IfOk r (λ x. AllZip (λ (out : Out) p. out.0 ≡ Ok p) outs (parts x)) → IfOk r (λ x. AllZip (λ (out : Out) o. out.1 ≡ o) outs (observers x))
      → IfOk r (λ x. AreGathered connector told committee ss (parts x) (observers x))
  all_gathered ss outs zip (Ok x) parts observers are those = gathered_all ss outs (parts x) (observers x) zip are those
  all_gathered ss outs zip (Err e) parts observers are those = tt

  record AreSome (ss : List (Observed C O)) (outs : List Out) : Type 0 where
    logs : List ReceivedLog
    given : AllZip (MayGive connector.gives) (sources_of ss) logs
    refused : (e : EvidenceRefusal) (out : Out) → Has outs out → out.0 ≡ Err e → (l : ReceivedLog) × Has logs l × IsEvidenceRefusal (PartHasHeader committee l) e

  some_logs : (ss : List (Observed C O)) (outs : List Out) → AllZip (IsOutcome connector told committee) ss outs → AreSome ss outs
  some_logs [] [] zip = record { logs = []; given = tt; refused = λ e out h is. absurd h }
  some_logs [] (out ∷ outs) zip = absurd zip
  some_logs (s ∷ ss) [] zip = absurd zip
  some_logs (s ∷ ss) (out ∷ outs) zip =
      let one = zip.0 in
      let rest = some_logs ss outs zip.1 in
      record {
        logs = one.log ∷ rest.logs;
        given = (one.of, rest.given);
        refused = λ e x h is. elim h [
          | inl same ↦ (one.log, inl refl, subst (λ (r : Result Part EvidenceRefusal). IsResultOn committee one.log r) (ap (λ (y : Out). y.0) same ∙ is) one.result)
          | inr m ↦ let w = rest.refused e x m is in (w.0, inr w.1, w.2)
        ];
      }

  -- one is refused
  pub one_refused : (ss : List (Observed C O)) (outs : List Out) (e : EvidenceRefusal) → AllZip (IsOutcome connector told committee) ss outs → IsRefusedAmong outs e → IsRefusalOfSources (MayGive connector.gives) committee (sources_of ss) e
  one_refused ss outs Memory zip refused = tt
  one_refused ss outs (Collision h k) zip refused =
      let some = some_logs ss outs zip in
      let w = some.refused (Collision h k) refused.0 (Has-from_Contains outs refused.0 refused.1) refused.2 in
      record {
        logs = some.logs;
        given = some.given;
        collision = fault_as (PartHasHeader committee w.0) (IsHeaderInEvidence committee some.logs) (Collision h k) (λ x p. elim p [ inl g ↦ inl g | inr s ↦ inr (w.0, Contains-from_Has some.logs w.0 w.1, s) ]) w.2;
      }

pub refused_among : {O : Type 0} (outs before after : List (Result Part EvidenceRefusal × O)) (out : Result Part EvidenceRefusal × O) (e : EvidenceRefusal) → before ++ out ∷ after ≡ outs → out.0 ≡ Err e → IsRefusedAmong outs e
refused_among outs before after out Memory all is = tt
refused_among {O} outs before after out (Collision h k) all is =
    (out, subst (λ (xs : List (Result Part EvidenceRefusal × O)). Contains xs out) all (Contains-append_right before (out ∷ after) out (0, omega arith, refl)), is)

-- each part's report is one of the evidence
pub caused_reports : {C : Type 0} (connector : Ghosts C) (ss : List (Source C)) (ps : List Part) (rs : List SourceReport) → AllZip (IsCausedPart connector) ss ps → AllZip HasReport ps rs → AllZip (MayFail connector.reaches connector.failed) ss rs
caused_reports connector [] [] [] zip told = tt
caused_reports connector [] [] (r ∷ rs) zip told = absurd told
caused_reports connector [] (p ∷ ps) rs zip told = absurd zip
caused_reports connector (s ∷ ss) [] rs zip told = absurd zip
caused_reports connector (s ∷ ss) (p ∷ ps) [] zip told = absurd told
caused_reports connector (s ∷ ss) (p ∷ ps) (r ∷ rs) zip told =
    (subst (λ (x : SourceReport). MayFail connector.reaches connector.failed s x) (sym told.0) zip.0, caused_reports connector ss ps rs zip.1 told.1)

-- what was found of each part was found of its log
pub judged_logs : (committee : List ℕ) (bad : List SignedVote) (logs : List ReceivedLog) (ps : List Part) (js : List Judgement) → ((l : ReceivedLog) → Has logs l → SeparatesBad committee l bad) → AllZip (IsPartOn committee) logs ps
    → AllZip (IsJudgedBy committee bad) ps js → AllZip (IsJudged committee) logs js
judged_logs committee bad [] [] [] separates parts judged = tt
judged_logs committee bad [] [] (j ∷ js) separates parts judged = absurd judged
judged_logs committee bad [] (p ∷ ps) js separates parts judged = absurd parts
judged_logs committee bad (l ∷ ls) [] js separates parts judged = absurd parts
judged_logs committee bad (l ∷ ls) (p ∷ ps) [] separates parts judged = absurd judged
judged_logs committee bad (l ∷ ls) (p ∷ ps) (j ∷ js) separates parts judged =
    (judged.0 l parts.0 (separates l (inl refl)), judged_logs committee bad ls ps js (λ x h. separates x (inr h)) parts.1 judged.1)

-- what may be tried of sources may be tried of them where they are shown to someone
pub tries_of : {C O : Type 0} (allowed : C → ℕ) (os : List (Observed C O)) (ss : List (Source C)) → sources_of os ≡ ss → All (MayBeTried allowed) ss → All (MayBeTriedIn allowed) os
tries_of {C} {O} allowed os ss same all = from_map os (subst (λ (xs : List (Source C)). All (MayBeTried allowed) xs) (sym same) all)
  where
    from_map : (xs : List (Observed C O)) → All (MayBeTried allowed) (sources_of xs) → All (MayBeTriedIn allowed) xs
    from_map [] each = All-nil (MayBeTriedIn allowed)
    from_map (x ∷ xs) each = All-cons (MayBeTriedIn allowed) x xs (All-head (MayBeTried allowed) x.source (sources_of xs) each) (from_map xs (All-tail (MayBeTried allowed) x.source (sources_of xs) each))
