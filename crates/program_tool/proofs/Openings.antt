-- The sources that words spell, and what came of one reading of them.
use Rattle.std.proofs.Common.{◌≡◌, ◌<◌, ◌+◌, ◌++◌, ◌∷◌, ℕ, List, [], Option, Bor, get_or, length, subst, sym, take}
use Rattle.std.specs.Prelude.{IsSome, map}
use Rattle.std.specs.List.{All, AllZip}
use Rattle.std.proofs.lemmas.List.Elements.{All-map}
use Rattle.base_streams.specs.Streams.{Wrote}
use Rattle.log_transfer.specs.Connections.{Connection}
use Rattle.log_transfer.specs.declared.connector.Connector.{Ghosts}
use Rattle.log_transfer.specs.declared.source_connector.ServerOrFile.{ServerOrFile}
use Rattle.verdict_format.specs.Proofs.{IsProof}
use Rattle.audit_evidence.specs.Evidence.{Evidence}
use Rattle.audit_evidence.specs.Logs.{ReceivedLog}
use Rattle.audit_evidence.proofs.Gatherings.{zip_more}
use Rattle.parallel_verify.specs.Collections.{MayFail, MayGive}
use Rattle.parallel_verify.specs.declared.source.Source.{Source}
use Rattle.culprit_search.specs.Reports.{AreMoreThanAThird, Report}
use Rattle.culprit_search.specs.ReportText.{report_text}
use Rattle.audit_run.specs.Runs.{IsAccounted, IsAuditRun, IsCompleteSource, ProveAConflict}
use Rattle.program_parts.specs.declared.words.SourceWord.{SourceWord}
use Rattle.program_tool.specs.Audits.{IsAuditOfWords, Said}
use Rattle.program_tool.specs.OpenedSources.{IsOpenedAs, SpellSources}
use Rattle.program_tool.specs.SourceTries.{IsTriedAs}

-- one more
pub opened_more : {S F X : Type 0} (connector : X → ServerOrFile S F) (replica : X → ℕ) (words : List SourceWord) (sources sources' : List X) (i : ℕ) (d : SourceWord) (s : X)
    → i < length words → sources' ≡ sources ++ s ∷ [] → AllZip (λ w x. IsOpenedAs w (replica x) (connector x)) (take i words) sources
    → IsOpenedAs (get_or words i d) (replica s) (connector s) → AllZip (λ w x. IsOpenedAs w (replica x) (connector x)) (take (i + 1) words) sources'
opened_more {X = X} connector replica words sources sources' i d s within pushed opened one =
    subst (λ (xs : List X). AllZip (λ w x. IsOpenedAs w (replica x) (connector x)) (take (i + 1) words) xs) (sym pushed)
    (zip_more (λ w x. IsOpenedAs w (replica x) (connector x)) words sources i d s within opened one)

-- ---- a source inside another

-- the source whose connector is inside this one's
abbrev inner_source : {X C : Type 0} → (X → C) → Source X → Source C
inner_source inner s = record { replica = s.replica; connector = inner s.connector; tries = s.tries }

zip_of_first : {X Y Z : Type 0} (f : X → Y) (R : X → Z → Type 0) (R' : Y → Z → Type 0) → ((x : X) (z : Z) → R x z → R' (f x) z) → (xs : List X) (zs : List Z) → AllZip R xs zs
    → AllZip R' (map f xs) zs
zip_of_first f R R' each [] [] zip = zip
zip_of_first f R R' each [] (z ∷ zs) zip = zip
zip_of_first f R R' each (x ∷ xs) [] zip = zip
zip_of_first f R R' each (x ∷ xs) (z ∷ zs) zip = (each x z zip.0, zip_of_first f R R' each xs zs zip.1)

-- .. and back
zip_to_first : {X Y Z : Type 0} (f : X → Y) (R : X → Z → Type 0) (R' : Y → Z → Type 0) → ((x : X) (z : Z) → R' (f x) z → R x z) → (xs : List X) (zs : List Z) → AllZip R' (map f xs) zs
    → AllZip R xs zs
zip_to_first f R R' each [] [] zip = zip
zip_to_first f R R' each [] (z ∷ zs) zip = zip
zip_to_first f R R' each (x ∷ xs) [] zip = zip
zip_to_first f R R' each (x ∷ xs) (z ∷ zs) zip = (each x z zip.0, zip_to_first f R R' each xs zs zip.1)

zip_of_second : {X Y Z : Type 0} (f : Y → Z) (R : X → Z → Type 0) (xs : List X) (ys : List Y) → AllZip (λ x y. R x (f y)) xs ys → AllZip R xs (map f ys)
zip_of_second f R [] [] zip = zip
zip_of_second f R [] (y ∷ ys) zip = zip
zip_of_second f R (x ∷ xs) [] zip = zip
zip_of_second f R (x ∷ xs) (y ∷ ys) zip = (zip.0, zip_of_second f R xs ys zip.1)

-- a run over sources is one over those inside them
abbrev inner_run : {X C : Type 0} (inner : X → C) (gives : C → ℕ → ℕ → ℕ → Connection → Type 0) (reaches : C → C → Type 0) (failed : C → ℕ) (committee : List ℕ) (sources : List (Source X)) (e : Evidence) (r : Report)
    → IsAuditRun (MayGive (λ x. gives (inner x))) (MayFail (λ x y. reaches (inner x) (inner y)) (λ x. failed (inner x))) committee sources e r
    → IsAuditRun (MayGive gives) (MayFail reaches failed) committee (map (inner_source inner) sources) e r
inner_run inner gives reaches failed committee sources e r run = record {
  under = run.under;
  evidence = record {
    logs = run.evidence.logs;
    given = zip_of_first (inner_source inner) (MayGive (λ x. gives (inner x))) (MayGive gives) (λ s l given. given) sources run.evidence.logs run.evidence.given;
    evidence = run.evidence.evidence;
  };
  sound = run.sound;
  caused = zip_of_first (inner_source inner) (MayFail (λ x y. reaches (inner x) (inner y)) (λ x. failed (inner x))) (MayFail reaches failed)
      (λ s told caused. record { after = inner caused.after; reached = caused.reached; cause = caused.cause }) sources e.sources run.caused;
  audit = run.audit;
}

-- complete sources are those around them, too
outer_complete : {X C : Type 0} (inner : X → C) (gives : C → ℕ → ℕ → ℕ → Connection → Type 0) (sources : List (Source X)) (logs : List ReceivedLog)
    → AllZip (IsCompleteSource gives) (map (inner_source inner) sources) logs → AllZip (IsCompleteSource (λ x. gives (inner x))) sources logs
outer_complete inner gives sources logs complete =
    zip_to_first (inner_source inner) (IsCompleteSource (λ x. gives (inner x))) (IsCompleteSource gives) (λ s l is. record { of = is.of; log = is.log; complete = is.complete }) sources logs complete

-- what is printed of sources inside which are those that words spell
pub of_words : {S F X : Type 0} (connector : Ghosts (ServerOrFile S F)) (Are : Said) (inner : X → ServerOrFile S F) (words : List (Bor (List ℕ))) (tries : ℕ) (named named' : List SourceWord) (committee : List ℕ)
    (sources : List (Source X)) (e : Evidence) (r : Report) (before after : Option (List ℕ)) (verdicts verdicts' : List (List ℕ)) → SpellSources words named → named' ≡ named
    → AllZip (λ w s. IsOpenedAs w s.replica (inner s.connector)) named' sources → All (λ s. IsTriedAs tries (inner s.connector) s.tries) sources
    → (run : IsAuditRun (MayGive (λ x. connector.gives (inner x))) (MayFail (λ x y. connector.reaches (inner x) (inner y)) (λ x. connector.failed (inner x))) committee sources e r)
    → ((logs : List ReceivedLog) → AllZip (IsCompleteSource (λ x. connector.gives (inner x))) sources logs → ProveAConflict committee logs → IsAccounted committee e r) → Are committee run.evidence.logs r → r.verdicts ≡ verdicts
    → All (IsProof committee) verdicts → (IsSome r.conflict → AreMoreThanAThird committee r) → Wrote before after (report_text e.sources r) → verdicts ≡ verdicts'
    → IsAuditOfWords connector Are words tries before after verdicts'
of_words {S = S} {F = F} connector Are inner words tries named named' committee sources e r before after verdicts verdicts' spelled same opened tried run accounts are with_these proofs many wrote is = record {
  committee = committee;
  named = named;
  spelled = spelled;
  sources = map (inner_source inner) sources;
  opened = record {
    each = subst (λ (ws : List SourceWord). AllZip (λ w s. IsOpenedAs w s.replica s.connector) ws (map (inner_source inner) sources)) same
        (zip_of_second (inner_source inner) (λ w s. IsOpenedAs w s.replica s.connector) named' sources opened);
    tried = All-map (λ (s : Source (ServerOrFile S F)). IsTriedAs tries s.connector s.tries) (inner_source inner) sources tried;
  };
  printed = record {
    evidence = e;
    report = r;
    run = inner_run inner connector.gives connector.reaches connector.failed committee sources e r run;
    accountability = λ logs complete conflict. accounts logs (outer_complete inner connector.gives sources logs complete) conflict;
    are = are;
    with = subst (λ (vs : List (List ℕ)). r.verdicts ≡ vs) is with_these;
    proofs = subst (λ (vs : List (List ℕ)). All (IsProof committee) vs) is proofs;
    more_than_a_third = many;
    wrote = wrote;
  };
}
