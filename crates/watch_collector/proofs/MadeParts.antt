-- A part that is made frame by frame.
use Rattle.std.proofs.Common.{◌≡◌, ◌↔◌, ◌⊎◌, ◌∙◌, ◌+◌, ◌++◌, ◌∷◌, ℕ, List, [], inl, inr, refl, sym, subst, arith}
use Rattle.std.specs.List.{Contains}
use Rattle.std.proofs.lemmas.List.{length-append}
use Rattle.blocks.specs.Genesis.{genesis_of}
use Rattle.blocks.specs.Headers.{Header}
use Rattle.certificates.specs.declared.vote.SignedVote.{SignedVote}
use Rattle.log_format.specs.declared.status.Status.{Status}
use Rattle.audit_evidence.specs.Evidence.{IsEvidenceRefusal, IsReportOf}
use Rattle.audit_evidence.specs.Gathering.{Grows, IsGatheringRefusal, IsListingOf}
use Rattle.audit_evidence.specs.Logs.{FrameHasHeader, FrameNamesVote, HaveEntries, SpellsEntry}
use Rattle.audit_evidence.specs.Sets.{InSome}
use Rattle.audit_evidence.specs.declared.refusal.EvidenceRefusal.{EvidenceRefusal}
use Rattle.audit_evidence.proofs.Gatherings.{fault_as, have_no_more, have_one_more, in_more, in_none}
use Rattle.watch_collector.specs.Parts.{IsInFrames, IsMadeOf, IsPartOn, Making, PartValue, part_log}

-- no frame yet
pub made_of_none : (committee : List ℕ) (m : Making) → m.gathered.committee ≡ committee → ((h : Header) → Contains m.gathered.headers h ↔ (h ≡ genesis_of committee)) → m.gathered.votes ≡ [] → m.frames ≡ 0 → m.entries ≡ 0
    → IsMadeOf committee [] m
made_of_none committee m under headers none frames entries = record {
  under = under;
  headers = λ h. (λ c. inl ((headers h).0 c), λ w. elim w [ inl g ↦ (headers h).1 g | inr k ↦ absurd (in_none FrameHasHeader h k) ]);
  votes = λ v. (λ c. absurd (nothing v (subst (λ (vs : List SignedVote). Contains vs v) none c)), λ k. absurd (in_none (FrameNamesVote m.replica) v k));
  count = frames;
  entries = entries;
}
  where
    nothing : (v : SignedVote) → Contains [] v → ⊥
    nothing v c = let l = c.1 in absurd (omega arith)

-- one frame more
pub made_more : (committee : List ℕ) (frames : List (List ℕ)) (frame : List ℕ) (m n : Making) → IsMadeOf committee frames m → n.replica ≡ m.replica → Grows m.gathered n.gathered (FrameHasHeader frame) (FrameNamesVote m.replica frame)
    → n.frames ≡ m.frames + 1 → ((SpellsEntry frame × (n.entries ≡ m.entries + 1)) ⊎ ((SpellsEntry frame → ⊥) × (n.entries ≡ m.entries))) → IsMadeOf committee (frames ++ frame ∷ []) n
made_more committee frames frame m n made same grown count entries = record {
  under = grown.committee ∙ made.under;
  headers = λ h. (
    λ c. elim ((grown.headers h).0 c) [
      | inl o ↦ elim ((made.headers h).0 o) [ inl g ↦ inl g | inr k ↦ inr ((in_more FrameHasHeader frames frame h).1 (inl k)) ]
      | inr x ↦ inr ((in_more FrameHasHeader frames frame h).1 (inr x))
    ],
    λ w. (grown.headers h).1 (elim w [
      | inl g ↦ inl ((made.headers h).1 (inl g))
      | inr k ↦ elim ((in_more FrameHasHeader frames frame h).0 k) [ inl o ↦ inl ((made.headers h).1 (inr o)) | inr x ↦ inr x ]
    ]),
  );
  votes = λ v.
      subst (λ (r : ℕ). Contains n.gathered.votes v ↔ InSome (FrameNamesVote r) (frames ++ frame ∷ []) v) (sym same) (
        λ c. (in_more (FrameNamesVote m.replica) frames frame v).1 (elim ((grown.votes v).0 c) [ inl o ↦ inl ((made.votes v).0 o) | inr x ↦ inr x ]),
        λ w. (grown.votes v).1 (elim ((in_more (FrameNamesVote m.replica) frames frame v).0 w) [ inl o ↦ inl ((made.votes v).1 o) | inr x ↦ inr x ]),
      );
  count = let k = made.count in let l = length-append frames (frame ∷ []) in omega (arith, count, k, l);
  entries = elim entries [
    | inl w ↦ subst (HaveEntries (frames ++ frame ∷ [])) (sym w.1) (have_one_more frames frame m.entries made.entries w.0)
    | inr w ↦ subst (HaveEntries (frames ++ frame ∷ [])) (sym w.1) (have_no_more frames frame m.entries made.entries w.0)
  ];
}

-- a fault of the next frame
pub fault_more : (committee : List ℕ) (frames : List (List ℕ)) (frame : List ℕ) (m : Making) (e : EvidenceRefusal) → IsMadeOf committee frames m → IsGatheringRefusal m.gathered (FrameHasHeader frame) e
    → IsEvidenceRefusal (IsInFrames committee (frames ++ frame ∷ [])) e
fault_more committee frames frame m e made fault =
    fault_as _ _ e (λ h w. elim w [
      | inl o ↦ elim ((made.headers h).0 o) [ inl g ↦ inl g | inr k ↦ inr ((in_more FrameHasHeader frames frame h).1 (inl k)) ]
      | inr x ↦ inr ((in_more FrameHasHeader frames frame h).1 (inr x))
    ]) fault

-- the part of it
pub finished : (committee : List ℕ) (frames : List (List ℕ)) (m : Making) (status : Status) (p : PartValue) → IsMadeOf committee frames m → IsListingOf m.gathered p.listing
    → p.report ≡ record { replica = m.replica; status = status; frames = m.frames; entries = m.entries } → IsPartOn committee (part_log m.replica frames status) p
finished committee frames m status p made listed report = record {
  under = listed.committee ∙ made.under;
  headers = λ h. subst (λ (hs : List Header). Contains hs h ↔ IsInFrames committee frames h) (sym listed.headers) (made.headers h);
  votes = λ v. (λ c. (made.votes v).0 ((listed.votes v).0 c), λ w. (listed.votes v).1 ((made.votes v).1 w));
  report =
      subst (IsReportOf (part_log m.replica frames status)) (sym report)
      (record { replica = refl; status = refl; count = made.count; entries = made.entries });
}
