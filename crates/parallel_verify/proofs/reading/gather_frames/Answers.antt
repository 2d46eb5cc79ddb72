use Rattle.std.proofs.Common.{◌≡◌, ◌++◌, ◌+◌, ◌∷◌, [], ◌∙◌, ℕ, List, None, refl, sym, subst, arith}
use Rattle.base_wire.specs.Payloads.{IsPayload}
use Rattle.std.proofs.lemmas.Bool.{false≢true}
use Rattle.log_transfer.specs.Pulls.{IsStep}
use Rattle.log_transfer.specs.declared.pull.Step.{Step}
use Rattle.log_transfer.proofs.Causes.{end_caused}
use Rattle.blocks.specs.Genesis.{genesis_of}
use Rattle.audit_evidence.specs.Gathering.{Grows, IsGatheringRefusal}
use Rattle.audit_evidence.specs.Logs.{ReceivedLog, LogHasHeader, FrameHasHeader, FrameNamesVote, HaveEntries, SpellsEntry}
use Rattle.audit_evidence.specs.declared.refusal.EvidenceRefusal.{EvidenceRefusal}
use Rattle.audit_evidence.proofs.Gatherings.{handed_on, have_one_more, have_no_more}
use Rattle.parallel_verify.specs.Collections.{IsGathering, IsLogFrom, reader_at, tally_of}
use Rattle.parallel_verify.specs.Steps.{AreReplayed}
use Rattle.parallel_verify.specs.declared.steps.Steps.{Steps}
use Rattle.parallel_verify.proofs.Collected.{IsSeen, first_caused, gathering_start, gathering_more, gathering_end, gathering_fault}
use Rattle.parallel_verify.proofs.reading.gather_frames.Goals.{then-branch, else-branch}
use Rattle.parallel_verify.proofs.reading.gather_frames.Goals as goal

pub loop-pull-init : goal.loop-pull-init
loop-pull-init g c =
    let pull = c.args.pull.now in
    let first = c.requires.first in
    let tries = c.requires.tries in
    record {
      most = omega (arith, first);
      held = c.requires.first;
      few = omega arith;
      so_far = gathering_start (λ (fs : List (List ℕ)). IsSeen (g.O.Observer.told c.args.observer.now c.args.observer.now) (genesis_of c.args.gathered.now.committee) 0 0 c.args.steps fs None) (g.C.Connector.gives pull.connector) (g.C.Connector.left pull.connector) pull.place c.args.gathered.now c.args.replica (record { told = g.met.O.Observer.stays c.args.observer.now; steps = λ same. c.requires.steps });
      reached = g.met.C.Connector.stays pull.connector;
      caused = first_caused (g.C.Connector.failed pull.connector) pull.place tries;
    }

pub returns-in_err-add_frame-in-Ok-Frame-clause-err : goal.returns-in_err-add_frame-in-Ok-Frame-clause-err
returns-in_err-add_frame-in-Ok-Frame-clause-err g c =
    let gives = g.C.Connector.gives in
    let left = g.C.Connector.left in
    let start = c.args.pull.now in
    let pull = c.loop-pull.pull in
    let then = c.next.new.self in
    let out = c.next.new.out.items in
    let P : EvidenceRefusal → Type 0 = λ e. (l : ReceivedLog) × IsLogFrom (gives start.connector) start.place c.args.replica l × IsGatheringRefusal c.args.gathered.now (LogHasHeader l) e in
    let step = subst (λ (s : Step). IsStep g.C.Connector pull then out s) c.in-Ok-Frame.field-0-is c.in-Ok-Frame.ensures.ok in
    let e = c.in_err-add_frame-in-Ok-Frame.field-0.0 in
    let fault = subst (λ (t : List ℕ). IsGatheringRefusal c.loop-pull.gathered (FrameHasHeader t) e) c.as_slice-payload.ensures.value c.in_err-add_frame-in-Ok-Frame.ensures.err in
    handed_on c.from_residual.result P e c.from_residual.ensures.1
    (gathering_fault (λ (fs : List (List ℕ)). IsSeen (g.O.Observer.told c.args.observer.now c.loop-pull.observer) (genesis_of c.args.gathered.now.committee) c.loop-pull.frames c.loop-pull.entries c.loop-pull.steps fs None) (gives start.connector) (gives pull.connector) (gives then.connector) (left start.connector) (left pull.connector) (left then.connector) start.place pull.place then.place c.args.gathered.now c.loop-pull.gathered c.args.replica c.loop-pull.frames c.loop-pull.entries
    c.loop-pull.invariant.so_far out e c.requires.closed step.2 c.failures.ensures.some c.failures.ensures.next fault)

pub frame-requires : goal.frame-requires
frame-requires g c =
    let step = subst (λ (s : Step). IsStep g.C.Connector c.loop-pull.pull c.next.new.self c.next.new.out.items s) c.in-Ok-Frame.field-0-is c.in-Ok-Frame.ensures.ok in
    subst IsPayload (sym c.as_slice-payload.ensures.value) step.0

pub loop-pull-preserved : goal.loop-pull-preserved
loop-pull-preserved g c =
    let gives = g.C.Connector.gives in
    let left = g.C.Connector.left in
    let start = c.args.pull.now in
    let pull = c.loop-pull.pull in
    let then = c.next.new.self in
    let out = c.next.new.out.items in
    let a = c.args.gathered.now in
    let b = c.loop-pull.gathered in
    let d = c.add_frame.new.self in
    let replica = c.args.replica in
    let frames = c.loop-pull.frames in
    let entries = c.loop-pull.entries in
    let inv = c.loop-pull.invariant in
    let few = inv.few in
    let held = inv.held in
    let place = c.next.ensures.place.few in
    let step = subst (λ (s : Step). IsStep g.C.Connector pull then out s) c.in-Ok-Frame.field-0-is c.in-Ok-Frame.ensures.ok in
    let one = step.1 in
    let shown = c.as_slice-payload.ensures.value in
    let genesis = genesis_of a.committee in
    let told = g.O.Observer.told c.args.observer.now in
    let after = c.frame.new.self in
    let grown = subst (λ (t : List ℕ). Grows b d (FrameHasHeader t) (FrameNamesVote replica t)) shown c.in_ok-add_frame-in-Ok-Frame.ensures.ok in
    let entry = c.in_ok-add_frame-in-Ok-Frame.ensures.entry in
    let seen : (fs : List (List ℕ)) → told c.loop-pull.observer fs None → told after (fs ++ out ∷ []) None = λ fs so_far. subst (λ (t : List ℕ). told after (fs ++ t ∷ []) None) shown (c.frame.ensures c.args.observer.now fs so_far) in
    let more : (steps : Steps) (n : ℕ) → ((fs : List (List ℕ)) → IsSeen (told c.loop-pull.observer) genesis frames entries c.loop-pull.steps fs None → n ≡ frames + 1 → AreReplayed genesis (fs ++ out ∷ []) steps)
    → ((fs : List (List ℕ)) → HaveEntries fs entries → HaveEntries (fs ++ out ∷ []) n)
    → IsGathering (λ (fs : List (List ℕ)). IsSeen (told after) genesis (frames + 1) n steps fs None) (reader_at (gives start.connector) (left start.connector) start.place) (reader_at (gives then.connector) (left then.connector) then.place) a d (tally_of replica (frames + 1) n) = λ steps n goes have.
    gathering_more (λ (fs : List (List ℕ)). IsSeen (told c.loop-pull.observer) genesis frames entries c.loop-pull.steps fs None) (gives start.connector) (gives pull.connector) (gives then.connector) (left start.connector) (left pull.connector) (left then.connector) start.place pull.place then.place a b replica frames entries inv.so_far
    (λ (fs : List (List ℕ)). IsSeen (told after) genesis (frames + 1) n steps fs None) d out n (λ fs s. record { told = seen fs s.told; steps = goes fs s }) step.2 grown have in
    record {
      most = omega (arith, place);
      held = one ∙ (let e = held in omega arith);
      few = elim c.if-branch.branch [ then-branch w ↦ omega (arith, w.entries-is, few) | else-branch w ↦ omega (arith, w.entries-is, few) ];
      so_far = more c.if-branch.steps c.if-branch.entries (elim c.if-branch.branch [
        | then-branch w ↦ λ fs s same. subst (λ (x : Steps). AreReplayed genesis (fs ++ out ∷ []) x) (sym w.steps-is) (subst (λ (t : List ℕ). AreReplayed genesis (fs ++ t ∷ []) w.take.new.self) shown (w.take.ensures genesis fs (entry.0 w.if-branch.true) (s.steps (omega (arith, w.entries-is, same)))))
        | else-branch w ↦ λ fs s same. absurd (omega (arith, w.entries-is, few, same))
      ]) (elim c.if-branch.branch [
        | then-branch w ↦ λ fs have. subst (HaveEntries (fs ++ out ∷ [])) (sym w.entries-is) (have_one_more fs out entries have (subst SpellsEntry shown (entry.0 w.if-branch.true)))
        | else-branch w ↦ λ fs have. subst (HaveEntries (fs ++ out ∷ [])) (sym w.entries-is) (have_no_more fs out entries have (λ is. false≢true (sym w.if-branch.false ∙ entry.1 (subst SpellsEntry (sym shown) is))))
      ]);
      reached = c.next.ensures.state start.connector inv.reached;
      caused = c.next.ensures.cause (g.C.Connector.failed start.connector) inv.caused;
    }

pub returns-in-Ok-End-clause-ok : goal.returns-in-Ok-End-clause-ok
returns-in-Ok-End-clause-ok g c =
    let gives = g.C.Connector.gives in
    let left = g.C.Connector.left in
    let start = c.args.pull.now in
    let pull = c.loop-pull.pull in
    let then = c.next.new.self in
    let step = subst (λ (s : Step). IsStep g.C.Connector pull then c.next.new.out.items s) c.in-Ok-End.field-0-is c.in-Ok-End.ensures.ok in
    let genesis = genesis_of c.args.gathered.now.committee in
    let told = g.O.Observer.told c.args.observer.now in
    let frames = c.loop-pull.frames in
    let entries = c.loop-pull.entries in
    let w = gathering_end (λ (fs : List (List ℕ)). IsSeen (told c.loop-pull.observer) genesis frames entries c.loop-pull.steps fs None) (gives start.connector) (gives pull.connector) (gives then.connector) (left start.connector) (left pull.connector) (left then.connector) start.place pull.place then.place c.args.gathered.now c.loop-pull.gathered c.args.replica frames entries
    c.loop-pull.invariant.so_far (IsSeen (told c.end.new.self) genesis frames entries c.loop-pull.steps) c.in-Ok-End.status (record { replica = c.args.replica; status = c.in-Ok-End.status; frames = frames; entries = entries }) (λ fs s. record { told = c.end.ensures c.args.observer.now fs s.told; steps = s.steps }) c.requires.closed step.3.1 step.0 step.1 refl in
    (w.0, w.1, w.2, w.3, w.4.told, w.4.steps)

pub returns-in-Ok-End-clause-cause : goal.returns-in-Ok-End-clause-cause
returns-in-Ok-End-clause-cause g c =
    let gives = g.C.Connector.gives in
    let left = g.C.Connector.left in
    let failed = g.C.Connector.failed in
    let start = c.args.pull.now in
    let pull = c.loop-pull.pull in
    let then = c.next.new.self in
    let step = subst (λ (s : Step). IsStep g.C.Connector pull then c.next.new.out.items s) c.in-Ok-End.field-0-is c.in-Ok-End.ensures.ok in
    end_caused (failed start.connector) (failed then.connector) then.place c.in-Ok-End.status (c.next.ensures.cause (failed start.connector) c.loop-pull.invariant.caused) step.0 step.1
