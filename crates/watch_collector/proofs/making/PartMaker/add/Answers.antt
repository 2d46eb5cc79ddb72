use Rattle.std.proofs.Common.{◌≡◌, ◌∙◌, ◌+◌, List, ℕ, ap, inl, inr, sym, subst}
use Rattle.std.specs.Prelude.{◌++◌, ◌∷◌, []}
use Rattle.std.proofs.lemmas.Bool.{false≢true}
use Rattle.audit_evidence.specs.Evidence.{IsEvidenceRefusal}
use Rattle.audit_evidence.specs.Gathering.{Gathered, Grows, IsGatheringRefusal}
use Rattle.audit_evidence.specs.Logs.{FrameHasHeader, FrameNamesVote}
use Rattle.audit_evidence.specs.declared.refusal.EvidenceRefusal.{EvidenceRefusal}
use Rattle.audit_evidence.proofs.Gatherings.{handed_on}
use Rattle.watch_collector.specs.Parts.{IsInFrames, IsMadeOf, Making}
use Rattle.watch_collector.proofs.MadeParts.{fault_more, made_more}
use Rattle.watch_collector.proofs.making.PartMaker.add.Goals.{then-is_entry, else-is_entry}
use Rattle.watch_collector.proofs.making.PartMaker.add.Goals as goal

pub returns-in_err-is_entry-clause-refused : goal.returns-in_err-is_entry-clause-refused
returns-in_err-is_entry-clause-refused c =
    let e = c.in_err-is_entry.field-0.0 in
    handed_on c.from_residual.result
    (λ (x : EvidenceRefusal). (committee : List ℕ) (frames : List (List ℕ)) → IsMadeOf committee frames c.args.self.now → IsEvidenceRefusal (IsInFrames committee (frames ++ c.args.frame.now ∷ [])) x) e c.from_residual.ensures.1
    (λ committee frames made. fault_more committee frames c.args.frame.now c.args.self.now e made
    (subst (λ (g : Gathered). IsGatheringRefusal g (FrameHasHeader c.args.frame.now) e) (ap (λ (m : Making). m.gathered) c.self.view_is) c.in_err-is_entry.ensures.err))

pub returns-clause-ok : goal.returns-clause-ok
returns-clause-ok c =
    let frame = c.args.frame.now in
    let old = c.args.self.now in
    let s = c.if-is_entry.self-inside in
    let new : Making = record { replica = s.replica; gathered = s.gathered; frames = s.frames + 1; entries = s.entries } in
    λ committee frames made.
    elim c.if-is_entry.branch [
      | then-is_entry w ↦
          made_more committee frames frame old new made
          (ap (λ x. x.replica) w.self-inside-is ∙ ap (λ (m : Making). m.replica) c.self.view_is)
          (grown s.gathered (ap (λ x. x.gathered) w.self-inside-is))
          (ap (λ x. x.frames + 1) w.self-inside-is ∙ ap (λ (m : Making). m.frames + 1) c.self.view_is)
          (inl (c.in_ok-is_entry.ensures.entry.0 w.if-is_entry.true, ap (λ x. x.entries) w.self-inside-is ∙ ap (λ (m : Making). m.entries + 1) c.self.view_is))
      | else-is_entry w ↦
          made_more committee frames frame old new made
          (ap (λ x. x.replica) w.self-inside-is ∙ ap (λ (m : Making). m.replica) c.self.view_is)
          (grown s.gathered (ap (λ x. x.gathered) w.self-inside-is))
          (ap (λ x. x.frames + 1) w.self-inside-is ∙ ap (λ (m : Making). m.frames + 1) c.self.view_is)
          (inr (λ is. false≢true (sym w.if-is_entry.false ∙ c.in_ok-is_entry.ensures.entry.1 is), ap (λ x. x.entries) w.self-inside-is ∙ ap (λ (m : Making). m.entries) c.self.view_is))
    ]
  where
    grown : (g : Gathered) → g ≡ c.add_frame.new.self → Grows c.args.self.now.gathered g (FrameHasHeader c.args.frame.now) (FrameNamesVote c.args.self.now.replica c.args.frame.now)
    grown g is =
        subst (λ (x : Gathered). Grows c.args.self.now.gathered x (FrameHasHeader c.args.frame.now) (FrameNamesVote c.args.self.now.replica c.args.frame.now)) (sym is)
        (subst (λ (m : Making). Grows m.gathered c.add_frame.new.self (FrameHasHeader c.args.frame.now) (FrameNamesVote m.replica c.args.frame.now)) c.self.view_is c.in_ok-is_entry.ensures.ok)
