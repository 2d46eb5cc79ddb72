-- A log of a source that begins, or is known.
use Rattle.std.proofs.Common.{◌≡◌, ◌∙◌, ◌<◌, ◌++◌, ◌∷◌, inl, inr, ℕ, List, [], Option, None, Some, length, get_or, set, sym, ap, subst, refl, arith}
use Rattle.std.specs.Prelude.{◌≢◌, option_map, slice_get}
use Rattle.std.proofs.lemmas.Bool.{cases_lt}
use Rattle.std.proofs.lemmas.List.{get_or_default, get_or-set_other, get_or-set_same}
use Rattle.std.proofs.Math.ListN.{length-set}
use Rattle.std.proofs.lemmas.Option.{slice_get-get_or, slice_get_past, slice_get_read}
use Rattle.audit_evidence.specs.Logs.{ReceivedLog}
use Rattle.watch_collector.specs.Collectors.{Collected, IsCollected, logs_then, unread_log, unread_report}
use Rattle.watch_desk.specs.Desks.{ChangesAt, WatchDesk, logs_with, number_for, reports_with}
use Rattle.certificates.specs.declared.vote.SignedVote.{SignedVote}
use Rattle.audit_evidence.specs.declared.source.SourceReport.{SourceReport}
use Rattle.watch_collector.specs.Parts.{IsPartOn}
use Rattle.watch_desk.specs.Opening.{IsAddedAt, IsBegun, IsNotedAt, IsOpenedAt}
use Rattle.watch_desk.specs.Sources.{AreTheBad}
use Rattle.watch_desk.specs.Taking.{HasBegun, IsNoted, SameButLogs}
use Rattle.watch_desk.specs.declared.news.News.{News}
use Rattle.watch_desk.specs.declared.source.NewPart.{NewPart}
use Rattle.watch_desk.specs.declared.source.LogKnown.{LogKnown}
use Rattle.watch_desk.specs.declared.source.SourceKnown.{SourceKnown}

pub same_source : (s : SourceKnown) → SameButLogs s s
same_source s = record { replica = refl; status = refl; bad = refl; top_view = refl; times_back = refl; back_told = refl; back = refl; is_beyond = refl; digests = refl }

-- what stands elsewhere stays
elsewhere : (xs : List SourceKnown) (i k : ℕ) (x : SourceKnown) → k ≢ i → slice_get (set xs i x) k ≡ slice_get xs k
elsewhere xs i k x other =
    let len : length (set xs i x) ≡ length xs = length-set xs i x in
    elim (cases_lt k (length xs)) [
      | inl below ↦
          slice_get-get_or (set xs i x) k x (subst (λ (n : ℕ). k < n) (sym len) below)
          ∙ ap Some (get_or-set_other xs i k x x other) ∙ sym (slice_get-get_or xs k x below)
      | inr past ↦ slice_get_past (set xs i x) k (omega (arith, len, past)) ∙ sym (slice_get_past xs k past)
    ]

pub changes_at : (xs : List SourceKnown) (i : ℕ) (before after : SourceKnown) → i < length xs → before ≡ get_or xs i before → ChangesAt xs (set xs i after) i before after
changes_at xs i before after there is = record {
  was = slice_get_read xs (length xs) i before refl there is;
  is = slice_get-get_or (set xs i after) i after (subst (λ (n : ℕ). i < n) (sym (length-set xs i after)) there) ∙ ap Some (get_or-set_same xs i after after there);
  others = λ k other. elsewhere xs i k after other;
  count = length-set xs i after;
}

pub changes_none : (xs : List SourceKnown) (i : ℕ) (before : SourceKnown) → i < length xs → before ≡ get_or xs i before → ChangesAt xs xs i before before
changes_none xs i before there is =
    let at = slice_get_read xs (length xs) i before refl there is in
    record { was = at; is = at; others = λ k _. refl; count = refl }

known_by : (d : WatchDesk) (i log n : ℕ) (before : SourceKnown) (o : Option LogKnown) → slice_get before.logs.items log ≡ o → i < length d.sources → before ≡ get_or d.sources i before → Some n ≡ option_map (λ l. l.number) o → IsOpenedAt d d i log n
known_by d i log n before None e there is known = absurd (let no : Some n ≡ None = known in cc)
known_by d i log n before (Some l) e there is known =
    let same : Some n ≡ Some l.number = known in (
      before,
      before,
      record {
        number_is = subst (λ (o : Option LogKnown). n ≡ number_for o (length d.collected.reports)) (sym e) cc;
        collected = λ committee logs k. subst (λ (o : Option LogKnown). IsCollected committee (logs_with o before.replica logs) d.collected) (sym e) k;
        gathered = refl;
        reports = subst (λ (o : Option LogKnown). d.collected.reports ≡ reports_with o before.replica d.collected.reports) (sym e) refl;
        changes = changes_none d.sources i before there is;
        same = same_source before;
        begun = subst (λ (o : Option LogKnown). IsBegun o before.logs.items before.logs.items n) (sym e) refl;
        told = refl;
      },
    )

pub opened_known : (d : WatchDesk) (i log n : ℕ) (before : SourceKnown) → i < length d.sources → before ≡ get_or d.sources i before → Some n ≡ option_map (λ l. l.number) (slice_get before.logs.items log) → IsOpenedAt d d i log n
opened_known d i log n before there is known = known_by d i log n before (slice_get before.logs.items log) refl there is known

-- the source at a place is one
same_at : (xs : List SourceKnown) (i : ℕ) (x y : SourceKnown) → i < length xs → x ≡ get_or xs i x → y ≡ get_or xs i y → x ≡ y
same_at xs i x y there one other = one ∙ get_or_default xs i x y there ∙ sym other

new_by : (d : WatchDesk) (new : Collected) (i log n : ℕ) (before after : SourceKnown) (o : Option LogKnown) → slice_get before.logs.items log ≡ o → i < length d.sources → before ≡ get_or d.sources i before
    → None ≡ option_map (λ l. l.number) o → n ≡ length d.collected.reports
    → ((committee : List ℕ) (logs : List ReceivedLog) → IsCollected committee logs d.collected → IsCollected committee (logs ++ unread_log before.replica ∷ []) new)
    → new.reports ≡ d.collected.reports ++ unread_report before.replica ∷ [] → new.gathered ≡ d.collected.gathered → SameButLogs before after
    → HasBegun before.logs.items after.logs.items n
    → IsOpenedAt d (record { collected = new; sources = set d.sources i after; told = d.told }) i log n
new_by d new i log n before after (Some l) e there is none next more reports gathered same begun = absurd (let no : None ≡ Some l.number = none in cc)
new_by d new i log n before after None e there is none next more reports gathered same begun = (
  before,
  after,
  record {
    number_is = subst (λ (o : Option LogKnown). n ≡ number_for o (length d.collected.reports)) (sym e) next;
    collected = λ committee logs k. subst (λ (o : Option LogKnown). IsCollected committee (logs_with o before.replica logs) new) (sym e) (more committee logs k);
    gathered = gathered;
    reports = subst (λ (o : Option LogKnown). new.reports ≡ reports_with o before.replica d.collected.reports) (sym e) reports;
    changes = changes_at d.sources i before after there is;
    same = same;
    begun = subst (λ (o : Option LogKnown). IsBegun o before.logs.items after.logs.items n) (sym e) begun;
    told = refl;
  },
)

pub opened_new : (d : WatchDesk) (new : Collected) (i log n : ℕ) (before again seen after : SourceKnown) → i < length d.sources
    → before ≡ get_or d.sources i before → again ≡ get_or d.sources i again → seen ≡ get_or d.sources i seen
    → None ≡ option_map (λ l. l.number) (slice_get before.logs.items log) → n ≡ length d.collected.reports
    → ((committee : List ℕ) (logs : List ReceivedLog) → IsCollected committee logs d.collected → IsCollected committee (logs ++ unread_log again.replica ∷ []) new)
    → new.reports ≡ d.collected.reports ++ unread_report again.replica ∷ [] → new.gathered ≡ d.collected.gathered → SameButLogs seen after
    → HasBegun seen.logs.items after.logs.items n
    → IsOpenedAt d (record { collected = new; sources = set d.sources i after; told = d.told }) i log n
opened_new d new i log n before again seen after there is is_again is_seen none next more reports gathered same begun =
    let first : again ≡ before = same_at d.sources i again before there is_again is in
    let third : seen ≡ before = same_at d.sources i seen before there is_seen is in
    new_by d new i log n before after (slice_get before.logs.items log) refl there is none next
    (λ committee logs k. subst (λ (s : SourceKnown). IsCollected committee (logs ++ unread_log s.replica ∷ []) new) first (more committee logs k))
    (subst (λ (s : SourceKnown). new.reports ≡ d.collected.reports ++ unread_report s.replica ∷ []) first reports)
    gathered
    (subst (λ (s : SourceKnown). SameButLogs s after) third same)
    (subst (λ (s : SourceKnown). HasBegun s.logs.items after.logs.items n) third begun)

-- ---- a part that was added

pub added_at : (d : WatchDesk) (new : Collected) (i number : ℕ) (p : NewPart) (heard : List News) (before after : SourceKnown) (report : SourceReport) (bad : List SignedVote) → i < length d.sources → before ≡ get_or d.sources i before
    → ((committee : List ℕ) (logs : List ReceivedLog) (l : ReceivedLog) → IsCollected committee logs d.collected → IsPartOn committee l p.part → IsCollected committee (logs_then logs number l) new)
    → AreTheBad d.collected.gathered.committee p.part.listing.votes bad → new.gathered.committee ≡ d.collected.gathered.committee → slice_get new.reports number ≡ Some report → IsNoted before after i p report bad heard
    → IsAddedAt d (record { collected = new; sources = set d.sources i after; told = d.told }) i number p heard
added_at d new i number p heard before after report bad there is collected are under report_is noted =
    (before, after, report, bad, record { collected = collected; bad_votes = are; under = under; report_is = report_is; changes = changes_at d.sources i before after there is; noted = noted; told = refl })

-- ---- something else that is noted

pub noted_at : (Is : SourceKnown → SourceKnown → Type 0) (d : WatchDesk) (i : ℕ) (before after : SourceKnown) → i < length d.sources → before ≡ get_or d.sources i before → Is before after
    → IsNotedAt Is i d (record { collected = d.collected; sources = set d.sources i after; told = d.told })
noted_at Is d i before after there is noted = (before, after, record { changes = changes_at d.sources i before after there is; noted = noted; collected = refl; told = refl })
