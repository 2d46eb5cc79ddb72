-- What is known of sources, when more came of one of them.
use Rattle.std.proofs.Common.{◌≡◌, ◌↔◌, ◌⊎◌, ◌∙◌, ◌<◌, ◌+◌, ◌++◌, ◌∷◌, ℕ, zero, suc, List, [], length, get_or, map, slice_set, Result, Ok, Err, IfOk, IfErr, OnOk, inl, inr, refl, sym, ap, subst, arith}
use Rattle.std.specs.List.{AllZip, Contains}
use Rattle.std.proofs.lemmas.List.{length-append}
use Rattle.std.proofs.lemmas.List.Elements.{Contains-append_right, Contains-append_left, Contains-append_cases}
use Rattle.std.specs.declared.alloc.AllocError.{AllocError}
use Rattle.blocks.specs.Genesis.{genesis_of}
use Rattle.blocks.specs.Headers.{Header}
use Rattle.blocks.proofs.Members.{Has, Has-from_Contains, Contains-from_Has}
use Rattle.certificates.specs.Votes.{IsGoodVote}
use Rattle.certificates.specs.declared.vote.SignedVote.{SignedVote}
use Rattle.audit_evidence.specs.Evidence.{Evidence, IsEvidenceOf, IsEvidenceRefusal, IsHeaderInEvidence, IsReportOf}
use Rattle.audit_evidence.specs.Gathering.{Gathered, Grows, IsGatheringRefusal, IsUnion}
use Rattle.watch_collector.specs.Growing.{IsShownOf}
use Rattle.audit_evidence.specs.Logs.{ReceivedLog, FrameHasHeader, FrameNamesVote, HaveEntries, LogHasHeader, LogNamesVote}
use Rattle.audit_evidence.specs.Sets.{InSome}
use Rattle.audit_evidence.specs.declared.refusal.EvidenceRefusal.{EvidenceRefusal}
use Rattle.audit_evidence.specs.declared.source.SourceReport.{SourceReport}
use Rattle.audit_evidence.proofs.Gatherings.{fault_as, in_more, in_none, named_and_good, zip_length}
use Rattle.watch_collector.specs.Collectors.{Collected, IsCollected, MayFollow, log_then, logs_then, report_then, reports_then, unread_log, unread_report}
use Rattle.watch_collector.specs.Parts.{IsPartOn, PartValue}
use Rattle.watch_collector.proofs.Lists.{no_votes, zip_at}

-- ---- one of a list, replaced

in_cons : {A X : Type 0} (Of : A → X → Type 0) (a : A) (xs : List A) (x : X) → InSome Of (a ∷ xs) x ↔ (Of a x ⊎ InSome Of xs x)
in_cons {A} Of a xs x = (
  λ w. elim (Has-from_Contains (a ∷ xs) w.0 w.1) [
    | inl e ↦ inl (subst (λ (y : A). Of y x) (sym e) w.2)
    | inr m ↦ inr (w.0, Contains-from_Has xs w.0 m, w.2)
  ],
  λ w. elim w [
    | inl o ↦ (a, Contains-from_Has (a ∷ xs) a (inl refl), o)
    | inr k ↦ (k.0, Contains-from_Has (a ∷ xs) k.0 (inr (Has-from_Contains xs k.0 k.1)), k.2)
  ],
)

-- it has what it had, and this besides
in_set : {A X : Type 0} (Of : A → X → Type 0) (Q : X → Type 0) (xs : List A) (i : ℕ) (d y : A) (x : X) → i < length xs → (Of y x ↔ (Of (get_or xs i d) x ⊎ Q x))
    → InSome Of (slice_set xs i y) x ↔ (InSome Of xs x ⊎ Q x)
in_set Of Q [] i d y x l has = absurd (omega arith)
in_set Of Q (a ∷ xs) zero d y x l has =
    let new = in_cons Of y xs x in
    let old = in_cons Of a xs x in (
      λ w. elim (new.0 w) [ inl o ↦ elim (has.0 o) [ inl b ↦ inl (old.1 (inl b)) | inr q ↦ inr q ] | inr k ↦ inl (old.1 (inr k)) ],
      λ w. new.1 (elim w [ inl b ↦ elim (old.0 b) [ inl o ↦ inl (has.1 (inl o)) | inr k ↦ inr k ] | inr q ↦ inl (has.1 (inr q)) ]),
    )
in_set Of Q (a ∷ xs) (suc i) d y x l has =
    let rest = in_set Of Q xs i d y x (omega arith) has in
    let new = in_cons Of a (slice_set xs i y) x in
    let old = in_cons Of a xs x in (
      λ w. elim (new.0 w) [ inl o ↦ inl (old.1 (inl o)) | inr k ↦ elim (rest.0 k) [ inl b ↦ inl (old.1 (inr b)) | inr q ↦ inr q ] ],
      λ w. new.1 (elim w [ inl b ↦ elim (old.0 b) [ inl o ↦ inl o | inr k ↦ inr (rest.1 (inl k)) ] | inr q ↦ inr (rest.1 (inr q)) ]),
    )

zip_set : {A B : Type 0} (R : A → B → Type 0) (xs : List A) (ys : List B) (i : ℕ) (x : A) (y : B) → AllZip R xs ys → R x y → AllZip R (slice_set xs i x) (slice_set ys i y)
zip_set R [] [] i x y zip r = tt
zip_set R [] (b ∷ ys) i x y zip r = absurd zip
zip_set R (a ∷ xs) [] i x y zip r = absurd zip
zip_set R (a ∷ xs) (b ∷ ys) zero x y zip r = (r, zip.1)
zip_set R (a ∷ xs) (b ∷ ys) (suc i) x y zip r = (zip.0, zip_set R xs ys i x y zip.1 r)

-- ---- frames, and more of them

in_append : {A X : Type 0} (Of : A → X → Type 0) (xs ys : List A) (x : X) → InSome Of (xs ++ ys) x ↔ (InSome Of xs x ⊎ InSome Of ys x)
in_append Of xs ys x = (
  λ w. elim (Contains-append_cases xs ys w.0 w.1) [ inl i ↦ inl (w.0, i, w.2) | inr o ↦ inr (w.0, o, w.2) ],
  λ w. elim w [ inl k ↦ (k.0, Contains-append_left xs ys k.0 k.1, k.2) | inr k ↦ (k.0, Contains-append_right xs ys k.0 k.1, k.2) ],
)

entries_then : (xs ys : List (List ℕ)) (n m : ℕ) → HaveEntries xs n → HaveEntries ys m → HaveEntries (xs ++ ys) (n + m)
entries_then [] ys n m none have = let e : m ≡ n + m = omega (arith, none) in subst (HaveEntries ys) e have
entries_then (x ∷ xs) ys n m (inl w) have = inl (w.0, (w.1.0 + m, omega (arith, w.1.1), entries_then xs ys w.1.0 m w.1.2 have))
entries_then (x ∷ xs) ys n m (inr w) have = inr (w.0, entries_then xs ys n m w.1 have)

report_of_both : (a l : ReceivedLog) (r s : SourceReport) → IsReportOf a r → IsReportOf l s → IsReportOf (log_then a l) (report_then r s)
report_of_both a l r s before later = record {
  replica = before.replica;
  status = later.status;
  count = omega (arith, before.count, later.count, length-append a.frames l.frames);
  entries = entries_then a.frames l.frames r.entries s.entries before.entries later.entries;
}

-- ---- more came of one source

module _ (committee : List ℕ) (logs : List ReceivedLog) (c : Collected) (i : ℕ) (l : ReceivedLog) (p : PartValue) (known : IsCollected committee logs c) (part : IsPartOn committee l p) (there : i < length c.reports) (follows : MayFollow (get_or c.reports i p.report) p.report) where
  abbrev before : ReceivedLog
  before = get_or logs i l

  in_logs : i < length logs
  in_logs = omega (arith, there, zip_length IsReportOf logs c.reports known.reports)

  told : IsReportOf before (get_or c.reports i p.report)
  told = zip_at IsReportOf logs c.reports i l p.report known.reports there

  same_replica : l.replica ≡ before.replica
  same_replica = sym part.report.replica ∙ follows.replica ∙ told.replica

  headers_of_both : (h : Header) → InSome LogHasHeader (logs_then logs i l) h ↔ (InSome LogHasHeader logs h ⊎ LogHasHeader l h)
  headers_of_both h = in_set LogHasHeader (LogHasHeader l) logs i l (log_then before l) h in_logs (in_append FrameHasHeader before.frames l.frames h)

  votes_of_both : (v : SignedVote) → InSome LogNamesVote (logs_then logs i l) v ↔ (InSome LogNamesVote logs v ⊎ LogNamesVote l v)
  votes_of_both v =
      in_set LogNamesVote (LogNamesVote l) logs i l (log_then before l) v in_logs
      (subst (λ (r : ℕ). LogNamesVote (log_then before l) v ↔ (LogNamesVote before v ⊎ InSome (FrameNamesVote r) l.frames v)) (sym same_replica)
      (in_append (FrameNamesVote before.replica) before.frames l.frames v))

  header_known : (h : Header) → Contains c.gathered.headers h ⊎ Contains p.listing.headers h → IsHeaderInEvidence committee (logs_then logs i l) h
  header_known h (inl old) = elim ((known.union.headers h).0 old) [ inl g ↦ inl g | inr w ↦ inr ((headers_of_both h).1 (inl w)) ]
  header_known h (inr new) = elim ((part.headers h).0 new) [ inl g ↦ inl g | inr w ↦ inr ((headers_of_both h).1 (inr w)) ]

  header_named : (h : Header) → IsHeaderInEvidence committee (logs_then logs i l) h → Contains c.gathered.headers h ⊎ Contains p.listing.headers h
  header_named h (inl g) = inl ((known.union.headers h).1 (inl g))
  header_named h (inr w) = elim ((headers_of_both h).0 w) [ inl o ↦ inl ((known.union.headers h).1 (inr o)) | inr n ↦ inr ((part.headers h).1 (inr n)) ]

  vote_known : (v : SignedVote) → Contains c.gathered.votes v ⊎ Contains p.listing.votes v → InSome LogNamesVote (logs_then logs i l) v
  vote_known v (inl old) = (votes_of_both v).1 (inl ((known.union.votes v).0 old))
  vote_known v (inr new) = (votes_of_both v).1 (inr ((part.votes v).0 new))

  vote_named : (v : SignedVote) → InSome LogNamesVote (logs_then logs i l) v → Contains c.gathered.votes v ⊎ Contains p.listing.votes v
  vote_named v w = elim ((votes_of_both v).0 w) [ inl o ↦ inl ((known.union.votes v).1 o) | inr n ↦ inr ((part.votes v).1 n) ]

  pub collected_more : (d : Collected) → Grows c.gathered d.gathered (Contains p.listing.headers) (Contains p.listing.votes) → d.reports ≡ reports_then c.reports i p.report → IsCollected committee (logs_then logs i l) d
  collected_more d grown reports = record {
    union = record {
      under = grown.committee ∙ known.union.under;
      headers = λ h. (λ m. header_known h ((grown.headers h).0 m), λ w. (grown.headers h).1 (header_named h w));
      votes = λ v. (λ m. vote_known v ((grown.votes v).0 m), λ w. (grown.votes v).1 (vote_named v w));
    };
    reports =
        subst (AllZip IsReportOf (logs_then logs i l)) (sym reports)
        (zip_set IsReportOf logs c.reports i (log_then before l) (report_then (get_or c.reports i p.report) p.report) known.reports (report_of_both before l (get_or c.reports i p.report) p.report told part.report));
  }

  pub refused_more : (e : EvidenceRefusal) → IsGatheringRefusal c.gathered (Contains p.listing.headers) e → IsEvidenceRefusal (IsHeaderInEvidence committee (logs_then logs i l)) e
  refused_more e fault = fault_as _ _ e header_known fault

-- ---- the evidence of it

pub evidence_of_known : (committee : List ℕ) (logs : List ReceivedLog) (c : Collected) (reports : List SourceReport) (e : Evidence) → IsCollected committee logs c → reports ≡ c.reports → IsShownOf c.gathered reports e → IsEvidenceOf committee logs e
evidence_of_known committee logs c reports e known same shown = record {
  under = shown.under ∙ known.union.under;
  headers = λ h. (
    λ m. (known.union.headers h).0 (subst (λ (hs : List Header). Contains hs h) shown.headers m),
    λ w. subst (λ (hs : List Header). Contains hs h) (sym shown.headers) ((known.union.headers h).1 w),
  );
  votes = λ v. (
    λ m. (let w = (shown.votes v).0 m in (named_and_good committee logs v).0 ((known.union.votes v).0 w.0, subst (λ (k : List ℕ). IsGoodVote k v) known.union.under w.1)),
    λ w. (let n = (named_and_good committee logs v).1 w in (shown.votes v).1 ((known.union.votes v).1 n.0, subst (λ (k : List ℕ). IsGoodVote k v) (sym known.union.under) n.1)),
  );
  reports = subst (AllZip IsReportOf logs) (sym (shown.reports ∙ same)) known.reports;
}

-- ---- the answers of calls

module _ (c d : Collected) (i : ℕ) (p : PartValue) (there : i < length c.reports) (follows : MayFollow (get_or c.reports i p.report) p.report) where
  pub added : {X : Type 0} (r : Result X EvidenceRefusal) → OnOk r (Grows c.gathered d.gathered (Contains p.listing.headers) (Contains p.listing.votes)) → OnOk r (d.reports ≡ reports_then c.reports i p.report)
      → OnOk r ((committee : List ℕ) (logs : List ReceivedLog) (l : ReceivedLog) → IsCollected committee logs c → IsPartOn committee l p → IsCollected committee (logs_then logs i l) d)
  added (Ok x) grown reports = λ committee logs l known part. collected_more committee logs c i l p known part there follows d grown reports
  added (Err e) grown reports = tt

  pub not_added : {X : Type 0} (r : Result X EvidenceRefusal) → IfErr r (IsGatheringRefusal c.gathered (Contains p.listing.headers))
      → IfErr r (λ e. (committee : List ℕ) (logs : List ReceivedLog) (l : ReceivedLog) → IsCollected committee logs c → IsPartOn committee l p → IsEvidenceRefusal (IsHeaderInEvidence committee (logs_then logs i l)) e)
  not_added (Ok x) fault = tt
  not_added (Err e) fault = λ committee logs l known part. refused_more committee logs c i l p known part there follows e fault

pub evidence_if_known : (r : Result Evidence AllocError) (g : Gathered) (reports held : List SourceReport) (c : Collected) → record { gathered = g; reports = held } ≡ c → reports ≡ held → IfOk r (IsShownOf g reports)
    → IfOk r (λ e. (committee : List ℕ) (logs : List ReceivedLog) → IsCollected committee logs c → IsEvidenceOf committee logs e)
evidence_if_known (Err e) g reports held c is same shown = tt
evidence_if_known (Ok e) g reports held c is same shown = λ committee logs known.
    evidence_of_known committee logs c reports e known (same ∙ ap (λ (k : Collected). k.reports) is) (subst (λ (k : Collected). IsShownOf k.gathered reports e) is shown)

-- ---- nothing came yet

no_frames : (rs : List ℕ) (l : ReceivedLog) → Has (map unread_log rs) l → l.frames ≡ []
no_frames [] l h = absurd h
no_frames (r ∷ rs) l (inl is) = ap (λ (x : ReceivedLog). x.frames) (sym is)
no_frames (r ∷ rs) l (inr h) = no_frames rs l h

nothing_of : {X : Type 0} (Of : List ℕ → X → Type 0) (l : ReceivedLog) (x : X) → l.frames ≡ [] → InSome Of l.frames x → ⊥
nothing_of Of l x none w = in_none Of x (subst (λ (fs : List (List ℕ)). InSome Of fs x) none w)

unread_reports : (rs : List ℕ) → AllZip IsReportOf (map unread_log rs) (map unread_report rs)
unread_reports [] = tt
unread_reports (r ∷ rs) = (record { replica = refl; status = refl; count = refl; entries = refl }, unread_reports rs)

pub nothing_yet : (committee rs : List ℕ) (c : Collected) → c.gathered.committee ≡ committee → ((h : Header) → Contains c.gathered.headers h ↔ (h ≡ genesis_of committee)) → c.gathered.votes ≡ [] → c.reports ≡ map unread_report rs
    → IsCollected committee (map unread_log rs) c
nothing_yet committee rs c under headers votes reports = record {
  union = record {
    under = under;
    headers = λ h. (
      λ m. inl ((headers h).0 m),
      λ w. elim w [ inl g ↦ (headers h).1 g | inr k ↦ absurd (nothing_of FrameHasHeader k.0 h (no_frames rs k.0 (Has-from_Contains (map unread_log rs) k.0 k.1)) k.2) ],
    );
    votes = λ v. (
      λ m. absurd (no_votes c.gathered.votes v votes m),
      λ k. absurd (nothing_of (FrameNamesVote k.0.replica) k.0 v (no_frames rs k.0 (Has-from_Contains (map unread_log rs) k.0 k.1)) k.2),
    );
  };
  reports = subst (AllZip IsReportOf (map unread_log rs)) (sym reports) (unread_reports rs);
}

-- ---- one log more

in_last : {A X : Type 0} (Of : A → X → Type 0) (xs : List A) (a : A) (x : X) → (Of a x → ⊥) → InSome Of (xs ++ a ∷ []) x ↔ InSome Of xs x
in_last Of xs a x none =
    let more = in_more Of xs a x in
    (λ w. elim (more.0 w) [ inl o ↦ o | inr n ↦ absurd (none n) ], λ w. more.1 (inl w))

zip_push : {A B : Type 0} (R : A → B → Type 0) (xs : List A) (ys : List B) (x : A) (y : B) → AllZip R xs ys → R x y → AllZip R (xs ++ x ∷ []) (ys ++ y ∷ [])
zip_push R [] [] x y zip r = (r, tt)
zip_push R [] (b ∷ ys) x y zip r = absurd zip
zip_push R (a ∷ xs) [] x y zip r = absurd zip
zip_push R (a ∷ xs) (b ∷ ys) x y zip r = (zip.0, zip_push R xs ys x y zip.1 r)

pub one_log_more : (replica : ℕ) (c d : Collected) → d.gathered ≡ c.gathered → d.reports ≡ c.reports ++ unread_report replica ∷ []
    → (committee : List ℕ) (logs : List ReceivedLog) → IsCollected committee logs c → IsCollected committee (logs ++ unread_log replica ∷ []) d
one_log_more replica c d same reports committee logs known = record {
  union = subst (λ (g : Gathered). IsUnion committee (logs ++ unread_log replica ∷ []) g) (sym same) (record {
    under = known.union.under;
    headers = λ h. (
      λ m. elim ((known.union.headers h).0 m) [ inl g ↦ inl g | inr w ↦ inr ((last_header h).1 w) ],
      λ w. (known.union.headers h).1 (elim w [ inl g ↦ inl g | inr k ↦ inr ((last_header h).0 k) ]),
    );
    votes = λ v. (
      λ m. (last_vote v).1 ((known.union.votes v).0 m),
      λ w. (known.union.votes v).1 ((last_vote v).0 w),
    );
  });
  reports = subst (AllZip IsReportOf (logs ++ unread_log replica ∷ [])) (sym reports)
      (zip_push IsReportOf logs c.reports (unread_log replica) (unread_report replica) known.reports (record { replica = refl; status = refl; count = refl; entries = refl }));
}
  where
    last_header : (h : Header) → InSome LogHasHeader (logs ++ unread_log replica ∷ []) h ↔ InSome LogHasHeader logs h
    last_header h = in_last LogHasHeader logs (unread_log replica) h (in_none FrameHasHeader h)

    last_vote : (v : SignedVote) → InSome LogNamesVote (logs ++ unread_log replica ∷ []) v ↔ InSome LogNamesVote logs v
    last_vote v = in_last LogNamesVote logs (unread_log replica) v (in_none (FrameNamesVote replica) v)

-- what is shown stands under the committee
pub shown_under : (r : Result Evidence AllocError) (g : Gathered) (reports : List SourceReport) (committee : List ℕ) → g.committee ≡ committee → IfOk r (IsShownOf g reports) → IfOk r (λ e. e.committee ≡ committee)
shown_under (Ok e) g reports committee under shown = shown.under ∙ under
shown_under (Err e) g reports committee under shown = tt
