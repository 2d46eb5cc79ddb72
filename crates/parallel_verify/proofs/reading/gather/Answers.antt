use Rattle.std.proofs.Common.{◌≡◌, ◌∙◌, [], ℕ, List, Some, ap, sym, subst, arith}
use Rattle.blocks.specs.Genesis.{genesis_of}
use Rattle.blocks.specs.Headers.{Header}
use Rattle.log_transfer.specs.Places.{HasCause}
use Rattle.log_transfer.specs.Pulls.{first_place}
use Rattle.log_transfer.specs.declared.reader_state.ReaderState.{ReaderState}
use Rattle.audit_evidence.specs.Evidence.{IsReportOf}
use Rattle.audit_evidence.specs.Gathering.{Grows, IsGatheringRefusal}
use Rattle.audit_evidence.specs.Logs.{ReceivedLog, LogHasHeader, LogNamesVote}
use Rattle.parallel_verify.specs.Collections.{IsLogFrom}
use Rattle.parallel_verify.specs.Parts.{TellsSteps}
use Rattle.parallel_verify.specs.Steps.{AreReplayed}
use Rattle.parallel_verify.proofs.Collected.{some_log_of, gathered_none, gathered_fault, gathered_all}
use Rattle.parallel_verify.proofs.reading.gather.Goals as goal

pub returns-in_err-gathered : goal.returns-in_err-gathered
returns-in_err-gathered g c =
    let s = c.args.source in
    let made = c.new-pull.ensures in
    gathered_none g.C.Connector.gives g.C.Connector.reaches g.C.Connector.failed _ s.connector s.tries s.replica c.args.committee.now c.from_residual.result
    (subst (λ x. (l : ReceivedLog) × IsLogFrom (g.C.Connector.gives x) (first_place s.tries) s.replica l) made.connector
    (subst (λ (p : ReaderState). (l : ReceivedLog) × IsLogFrom (g.C.Connector.gives c.new-pull.result.connector) p s.replica l) made.place
    (some_log_of (g.C.Connector.gives c.new-pull.result.connector) (g.C.Connector.left c.new-pull.result.connector) c.new-pull.result.place s.replica (ap (λ (p : ReaderState). p.is_open) made.place) c.failures.ensures.some c.failures.ensures.next))) c.from_residual.ensures.1

pub gather_frames-requires-clause-tries : goal.gather_frames-requires-clause-tries
gather_frames-requires-clause-tries g c =
    let some = c.requires.some in
    let same = ap (λ (p : ReaderState). p.tries) c.new-pull.ensures.place in
    omega (arith, some, same)

pub gather_frames-requires-clause-some : goal.gather_frames-requires-clause-some
gather_frames-requires-clause-some g c =
    let pull = c.new-pull.result in
    some_log_of (g.C.Connector.gives pull.connector) (g.C.Connector.left pull.connector) pull.place _ (ap (λ (p : ReaderState). p.is_open) c.new-pull.ensures.place) c.failures.ensures.some c.failures.ensures.next

pub returns-in_err-came : goal.returns-in_err-came
returns-in_err-came g c =
    let s = c.args.source in
    let a = c.in_ok-gathered.gathered in
    let made = c.new-pull.ensures in
    let e = c.in_err-came.field-0.0 in
    let P : ReaderState → Type 0 = λ p. (l : ReceivedLog) × IsLogFrom (g.C.Connector.gives s.connector) p s.replica l × IsGatheringRefusal a (LogHasHeader l) e in
    let w = subst P made.place (subst (λ x. (l : ReceivedLog) × IsLogFrom (g.C.Connector.gives x) c.new-pull.result.place s.replica l × IsGatheringRefusal a (LogHasHeader l) e) made.connector c.in_err-came.ensures.err) in
    gathered_fault g.C.Connector.gives g.C.Connector.reaches g.C.Connector.failed _ s.connector s.tries s.replica c.args.committee.now a c.in_ok-gathered.ensures.committee c.in_ok-gathered.ensures.headers c.from_residual-in_err-came.result e w.0 c.from_residual-in_err-came.ensures.1 w.1 w.2

pub gather_frames-requires-clause-steps : goal.gather_frames-requires-clause-steps
gather_frames-requires-clause-steps g c =
    let at = λ (k : List ℕ). AreReplayed (genesis_of k) [] c.first-steps.result in
    subst at (sym c.in_ok-gathered.ensures.committee)
    (subst (λ (h : Header). AreReplayed h [] c.first-steps.result) (c.of.ensures ∙ c.genesis.ensures.value) c.first-steps.ensures)

pub returns : goal.returns
returns g c =
    let s = c.args.source in
    let committee = c.args.committee.now in
    let a = c.in_ok-gathered.gathered in
    let b = c.gather_frames.new.gathered in
    let made = c.new-pull.ensures in
    let came = c.in_ok-came.came in
    let report = came.report in
    let after = c.gather_frames.new.pull.connector in
    let told = g.O.Observer.told c.args.observer.now c.gather_frames.new.observer in
    let Rest : ReceivedLog → Type 0 = λ l. Grows a b (LogHasHeader l) (LogNamesVote l) × IsReportOf l report × told l.frames (Some l.status) × (report.entries ≡ report.frames → AreReplayed (genesis_of a.committee) l.frames came.steps) in
    let P : ReaderState → Type 0 = λ p. (l : ReceivedLog) × IsLogFrom (g.C.Connector.gives s.connector) p s.replica l × Rest l in
    let ok = c.in_ok-came.ensures.ok in
    let w = subst P made.place (subst (λ x. (l : ReceivedLog) × IsLogFrom (g.C.Connector.gives x) c.new-pull.result.place s.replica l × Rest l) made.connector (ok.0, ok.1, (ok.2, ok.3, ok.4, ok.5))) in
    let reached = subst (λ x. g.C.Connector.reaches x after) made.connector c.in_ok-came.ensures.state in
    let cause = subst (λ x. HasCause (g.C.Connector.failed x) (g.C.Connector.failed after) report.status) made.connector c.in_ok-came.ensures.cause in
    let rest = w.2 in
    let steps : report.entries ≡ report.frames → TellsSteps (genesis_of committee) w.0.frames came.steps.are_legal came.steps.has_voted = λ same.
    let all = subst (λ (k : List ℕ). AreReplayed (genesis_of k) w.0.frames came.steps) c.in_ok-gathered.ensures.committee (rest.3 same) in
    record { legal = all.legal; voted = all.voted } in
    gathered_all g.C.Connector.gives g.C.Connector.reaches g.C.Connector.failed told s.connector s.tries s.replica committee a c.in_ok-gathered.ensures.committee c.in_ok-gathered.ensures.headers b _ w.0 after c.in_ok-gathered.ensures.votes w.1 rest.0 rest.1 c.in_ok-headers.ensures.headers c.in_ok-headers.ensures.votes reached cause rest.2 steps
