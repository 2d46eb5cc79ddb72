-- What is gathered of a source that is read frame by frame.
use Rattle.std.proofs.Common.{◌≡◌, ◌↔◌, ◌<◌, ◌+◌, ℕ, List, Option, Some, [], ◌∷◌, ◌++◌, false, inl, inr, refl, sym, subst, arith, Result, Ok, Err}
use Rattle.std.specs.Prelude.{IsErrAnd}
use Rattle.std.specs.List.{Contains}
use Rattle.std.proofs.lemmas.List.{length_push}
use Rattle.std.proofs.lemmas.List.Elements.{Contains-append_left}
use Rattle.blocks.specs.Genesis.{genesis_of}
use Rattle.blocks.specs.Headers.{Header}
use Rattle.certificates.specs.declared.vote.SignedVote.{SignedVote}
use Rattle.log_format.specs.declared.status.Status.{Status}
use Rattle.log_transfer.specs.Connections.{Connection, GivesSome}
use Rattle.log_transfer.specs.Places.{HasCause, IsCaused, IsEnd, Leads}
use Rattle.log_transfer.specs.Pulls.{first_place}
use Rattle.log_transfer.specs.declared.reader_state.ReaderState.{ReaderState}
use Rattle.log_transfer.proofs.Places.{leads_stay, leads_then, fetched_end, some_log}
use Rattle.audit_evidence.specs.Evidence.{IsEvidenceRefusal, IsReportOf}
use Rattle.audit_evidence.specs.Gathering.{Gathered, Grows, IsGatheringRefusal}
use Rattle.audit_evidence.specs.Logs.{ReceivedLog, FrameHasHeader, FrameNamesVote, HaveEntries, LogHasHeader, LogNamesVote}
use Rattle.audit_evidence.specs.NamedVotes.{all_votes}
use Rattle.audit_evidence.specs.Sets.{InSome}
use Rattle.audit_evidence.specs.declared.refusal.EvidenceRefusal.{EvidenceRefusal}
use Rattle.audit_evidence.specs.declared.refusal.EvidenceRefusal.TheVariants.{Memory}
use Rattle.audit_evidence.specs.declared.source.SourceReport.{SourceReport}
use Rattle.audit_evidence.proofs.Gatherings.{fault_as, fault_later, grown_as, grown_both, grown_start, in_more}
use Rattle.parallel_verify.specs.Collections.{IsGathering, IsLogFrom, reader_at, tally_of}
use Rattle.parallel_verify.specs.Parts.{IsGathered, Part, PartHasHeader, TellsSteps}
use Rattle.parallel_verify.specs.Steps.{AreReplayed}
use Rattle.parallel_verify.specs.declared.steps.Steps.{Steps}

abbrev Gives : Type 1
Gives = ℕ → ℕ → ℕ → Connection → Type 0

-- this was told of the frames so far, and where they are all entries, they are replayed
pub record IsSeen (Told : List (List ℕ) → Option Status → Type 0) (genesis : Header) (frames entries : ℕ) (s : Steps) (given : List (List ℕ)) (end : Option Status) : Type 0 where
  pub told : Told given end
  pub steps : entries ≡ frames → AreReplayed genesis given s

pub gathering_start : (Told : List (List ℕ) → Type 0) (gives : Gives) (left : Connection → Type 0) (p : ReaderState) (g : Gathered) (replica : ℕ) → Told [] → IsGathering Told (reader_at gives left p) (reader_at gives left p) g g (tally_of replica 0 0)
gathering_start Told gives left p g replica told =
    record { given = []; told = told; leads = leads_stay gives left p; grown = grown_start g FrameHasHeader (FrameNamesVote replica); have = refl; counted = refl }

grown_add : (a b c : Gathered) (replica : ℕ) (given : List (List ℕ)) (x : List ℕ) → Grows a b (InSome FrameHasHeader given) (InSome (FrameNamesVote replica) given)
    → Grows b c (FrameHasHeader x) (FrameNamesVote replica x) → Grows a c (InSome FrameHasHeader (given ++ x ∷ [])) (InSome (FrameNamesVote replica) (given ++ x ∷ []))
grown_add a b c replica given x g h =
    grown_as a c _ _ _ _
    (λ k. let all = in_more FrameHasHeader given x k in (all.1, all.0))
    (λ v. let all = in_more (FrameNamesVote replica) given x v in (all.1, all.0))
    (grown_both a b c (InSome FrameHasHeader given) (FrameHasHeader x) (InSome (FrameNamesVote replica) given) (FrameNamesVote replica x) g h)

module _ (Told : List (List ℕ) → Type 0) (old mid new : Gives) (old_left mid_left new_left : Connection → Type 0) (p q r : ReaderState) (a b : Gathered) (replica frames entries : ℕ) (so_far : IsGathering Told (reader_at old old_left p) (reader_at mid mid_left q) a b (tally_of replica frames entries)) where
  -- one frame more
  pub gathering_more : (Then : List (List ℕ) → Type 0) (c : Gathered) (x : List ℕ) (n : ℕ) → ((fs : List (List ℕ)) → Told fs → Then (fs ++ x ∷ [])) → Leads mid new mid_left new_left q r (x ∷ []) → Grows b c (FrameHasHeader x) (FrameNamesVote replica x)
      → ((fs : List (List ℕ)) → HaveEntries fs entries → HaveEntries (fs ++ x ∷ []) n) → IsGathering Then (reader_at old old_left p) (reader_at new new_left r) a c (tally_of replica (frames + 1) n)
  gathering_more Then c x n more leads step have = record {
    given = so_far.given ++ x ∷ [];
    told = more so_far.given so_far.told;
    leads = leads_then old mid new old_left mid_left new_left p q r so_far.given (x ∷ []) so_far.leads leads;
    grown = grown_add a b c replica so_far.given x so_far.grown step;
    have = have so_far.given so_far.have;
    counted = omega (arith, so_far.counted, length_push so_far.given x);
  }

  -- all that came
  pub gathering_end : (All : List (List ℕ) → Option Status → Type 0) (status : Status) (report : SourceReport) → ((fs : List (List ℕ)) → Told fs → All fs (Some status)) → p.is_open ≡ false → Leads mid new mid_left new_left q r [] → IsEnd r → status ≡ r.last
      → report ≡ record { replica = replica; status = status; frames = frames; entries = entries }
      → (l : ReceivedLog) × IsLogFrom old p replica l × Grows a b (LogHasHeader l) (LogNamesVote l) × IsReportOf l report × All l.frames (Some l.status)
  gathering_end All status report seen closed leads end is made =
      let l : ReceivedLog = record { replica = replica; frames = so_far.given; status = status } in (
        l,
        record { of = refl; outcome = fetched_end old mid new old_left mid_left new_left p q r so_far.given status closed so_far.leads leads end is },
        so_far.grown,
        subst (λ (s : SourceReport). IsReportOf l s) (sym made) (record { replica = refl; status = refl; count = so_far.counted; entries = so_far.have }),
        seen so_far.given so_far.told,
      )

  -- a fault at the next frame
  pub gathering_fault : (x : List ℕ) (e : EvidenceRefusal) → p.is_open ≡ false → Leads mid new mid_left new_left q r (x ∷ []) → GivesSome new_left → ((k f m : ℕ) → GivesSome (new k f m))
      → IsGatheringRefusal b (FrameHasHeader x) e → (l : ReceivedLog) × IsLogFrom old p replica l × IsGatheringRefusal a (LogHasHeader l) e
  gathering_fault x e closed leads some next fault =
      let given = so_far.given ++ x ∷ [] in
      let came = some_log old new old_left new_left p r given closed (leads_then old mid new old_left mid_left new_left p q r so_far.given (x ∷ []) so_far.leads leads) some next in
      let among : (h : Header) → InSome FrameHasHeader given h → InSome FrameHasHeader (given ++ came.more) h = λ h w. (w.0, Contains-append_left given came.more w.0 w.1, w.2) in (
        record { replica = replica; frames = given ++ came.more; status = came.status },
        record { of = refl; outcome = came.outcome },
        fault_later a b (InSome FrameHasHeader so_far.given) (FrameHasHeader x) (InSome FrameHasHeader (given ++ came.more)) _ e so_far.grown
            (λ h w. among h ((in_more FrameHasHeader so_far.given x h).1 (inl w))) (λ h w. among h ((in_more FrameHasHeader so_far.given x h).1 (inr w))) fault,
      )

-- nothing failed yet, and a try is left
pub first_caused : (now : ℕ) (p : ReaderState) → 0 < p.tries → IsCaused now now p
first_caused now p tries = record { risen = omega arith; cause = λ closed none. absurd (omega (arith, tries, none)) }

-- ---- the thread of a source

-- something comes of every source
pub some_log_of : (gives : Gives) (left : Connection → Type 0) (p : ReaderState) (replica : ℕ) → p.is_open ≡ false → GivesSome left → ((k f m : ℕ) → GivesSome (gives k f m)) → (l : ReceivedLog) × IsLogFrom gives p replica l
some_log_of gives left p replica closed some next =
    let came = some_log gives gives left left p p [] closed (leads_stay gives left p) some next in (
      record { replica = replica; frames = came.more; status = came.status },
      record { of = refl; outcome = came.outcome },
    )

module _ {C : Type 0} (gives : C → Gives) (reaches : C → C → Type 0) (failed : C → ℕ) (told : List (List ℕ) → Option Status → Type 0) (connector : C) (tries replica : ℕ) (committee : List ℕ) where
  -- memory was refused before anything was read
  pub gathered_none : (r : Result Part EvidenceRefusal) → (l : ReceivedLog) × IsLogFrom (gives connector) (first_place tries) replica l → IsErrAnd r (λ e. e ≡ Memory) → IsGathered gives reaches failed told connector tries replica committee r
  gathered_none (Ok p) some is = absurd is
  gathered_none (Err e) some is = record {
    log = some.0;
    of = record { of = some.1.of; fetched = some.1.outcome };
    result = subst (λ (x : EvidenceRefusal). IsEvidenceRefusal (PartHasHeader committee some.0) x) (sym is) tt;
    cause = tt;
    seen = tt;
  }

  module _ (a : Gathered) (under : a.committee ≡ committee) (first : (h : Header) → Contains a.headers h ↔ (h ≡ genesis_of committee)) where
    -- there was a fault in what came
    pub gathered_fault : (r : Result Part EvidenceRefusal) (e : EvidenceRefusal) (l : ReceivedLog) → IsErrAnd r (λ x. x ≡ e) → IsLogFrom (gives connector) (first_place tries) replica l → IsGatheringRefusal a (LogHasHeader l) e → IsGathered gives reaches failed told connector tries replica committee r
    gathered_fault (Ok p) e l is from fault = absurd is
    gathered_fault (Err x) e l is from fault = record {
      log = l;
      of = record { of = from.of; fetched = from.outcome };
      result = subst (λ (y : EvidenceRefusal). IsEvidenceRefusal (PartHasHeader committee l) y) (sym is) (fault_as _ _ e (λ h w. elim w [ inl o ↦ inl ((first h).0 o) | inr i ↦ inr i ]) fault);
      cause = tt;
      seen = tt;
    }

    -- all came
    pub gathered_all : (b : Gathered) (p : Part) (l : ReceivedLog) (after : C) → a.votes ≡ [] → IsLogFrom (gives connector) (first_place tries) replica l → Grows a b (LogHasHeader l) (LogNamesVote l) → IsReportOf l p.report
        → p.headers ≡ b.headers → all_votes p.votes p.certificates ≡ b.votes → reaches connector after → HasCause (failed connector) (failed after) p.report.status → told l.frames (Some l.status)
        → (p.report.entries ≡ p.report.frames → TellsSteps (genesis_of committee) l.frames p.are_legal p.has_voted) → IsGathered gives reaches failed told connector tries replica committee (Ok p)
    gathered_all b p l after none from grows report headers votes reached cause seen steps = record {
      log = l;
      of = record { of = from.of; fetched = from.outcome };
      result = record {
        headers = λ h. (
          λ c. elim ((grows.headers h).0 (subst (λ (hs : List Header). Contains hs h) headers c)) [ inl o ↦ inl ((first h).0 o) | inr i ↦ inr i ],
          λ w. subst (λ (hs : List Header). Contains hs h) (sym headers) ((grows.headers h).1 (elim w [ inl g ↦ inl ((first h).1 g) | inr i ↦ inr i ])),
        );
        votes = λ v. (
          λ c. (elim ((grows.votes v).0 (subst (λ (vs : List SignedVote). Contains vs v) votes c)) [ inl o ↦ absurd (nothing v (subst (λ (vs : List SignedVote). Contains vs v) none o)) | inr i ↦ i ]),
          λ i. subst (λ (vs : List SignedVote). Contains vs v) (sym votes) ((grows.votes v).1 (inr i)),
        );
        report = report;
        steps = steps;
      };
      cause = record { after = after; reached = reached; cause = cause };
      seen = seen;
    }
      where
        nothing : (v : SignedVote) → Contains [] v → ⊥
        nothing v c = let l = c.1 in absurd (omega arith)
