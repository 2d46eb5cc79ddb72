use Rattle.std.proofs.Common.{◌≡◌, ◌∙◌, ◌↔◌, ◌≤◌, ◌+◌, Bool, List, [], ℕ, length, take, sym, subst, arith}
use Rattle.std.proofs.lemmas.List.{take_all}
use Rattle.blocks.specs.Headers.{Header}
use Rattle.std.specs.List.{AllZip, Contains}
use Rattle.blocks.specs.Genesis.{genesis_of}
use Rattle.audit_evidence.specs.declared.source.SourceReport.{SourceReport}
use Rattle.audit_evidence.specs.Evidence.{IsEvidenceRefusal, IsHeaderInEvidence, IsReportOf}
use Rattle.certificates.specs.Votes.{IsAnswerOn}
use Rattle.certificates.specs.declared.vote.SignedVote.{SignedVote}
use Rattle.audit_evidence.specs.Sets.{InSome}
use Rattle.audit_evidence.specs.Gathering.{Gathered, Grows, IsListingOf, IsUnion}
use Rattle.audit_evidence.specs.Logs.{ReceivedLog, LogHasHeader, LogNamesVote}
use Rattle.audit_evidence.proofs.Gatherings.{evidence_from, is_union, union_has_genesis, fault_of_all, grown_step, handed_on, one_report_more}
use Rattle.audit_evidence.proofs.NamedVotes.{union_listed}
use Rattle.audit_evidence.proofs.evidence.evidence_of_logs.Goals as goal

pub returns-in_err-add_log-clause-refused : goal.returns-in_err-add_log-clause-refused
returns-in_err-add_log-clause-refused c =
    let committee = c.args.committee.now in
    let ls = c.args.logs.now in
    handed_on c.from_residual-in_err-add_log.result (IsEvidenceRefusal (IsHeaderInEvidence committee ls)) c.in_err-add_log.field-0.0 c.from_residual-in_err-add_log.ensures.1
    (fault_of_all committee ls c.in_ok-gathered.gathered c.loop-log.gathered c.loop-log.log-index c.log-item.result c.log-item.result c.in_err-add_log.field-0.0 c.in_ok-gathered.ensures.headers c.loop-log-test.true (sym c.log-item.is)
    c.loop-log.invariant.grown c.in_err-add_log.ensures.err)

pub loop-log-preserved : goal.loop-log-preserved
loop-log-preserved c =
    let ls = c.args.logs.now in
    let i = c.loop-log.log-index in
    record {
      grown = grown_step c.in_ok-gathered.gathered c.loop-log.gathered c.add_log.new.self LogHasHeader LogNamesVote ls i c.log-item.result c.log-item.result c.loop-log-test.true c.log-item.is c.loop-log.invariant.grown c.in_ok-add_log.ensures.ok;
      reports =
          subst (λ (rs : List SourceReport). AllZip IsReportOf (take (i + 1) ls) rs) (sym c.in_ok-put.ensures)
          (one_report_more ls c.loop-log.reports.items i c.log-item.result c.in_ok-add_log.field-0 c.loop-log-test.true c.log-item.is c.loop-log.invariant.reports c.in_ok-add_log.ensures.report);
    }

-- all sources were read
whole : (committee : List ℕ) (ls : List ReceivedLog) (i : ℕ) (a b : Gathered) → length ls ≤ i → a.committee ≡ committee → ((h : Header) → Contains a.headers h ↔ (h ≡ genesis_of committee)) → a.votes ≡ []
    → Grows a b (InSome LogHasHeader (take i ls)) (InSome LogNamesVote (take i ls)) → IsUnion committee ls b
whole committee ls i a b l under headers none g =
    is_union committee ls a b under headers none (subst (λ (xs : List ReceivedLog). Grows a b (InSome LogHasHeader xs) (InSome LogNamesVote xs)) (take_all i ls l) g)

-- what is listed is what the logs name
listed : (committee : List ℕ) (ls : List ReceivedLog) (i : ℕ) (a b listing : Gathered) → length ls ≤ i → a.committee ≡ committee → ((h : Header) → Contains a.headers h ↔ (h ≡ genesis_of committee)) → a.votes ≡ []
    → Grows a b (InSome LogHasHeader (take i ls)) (InSome LogNamesVote (take i ls)) → IsListingOf b listing → IsUnion committee ls listing
listed committee ls i a b listing l under headers none g is = union_listed committee ls b listing (whole committee ls i a b l under headers none g) is

pub of-requires-clause-genesis : goal.of-requires-clause-genesis
of-requires-clause-genesis c =
    union_has_genesis c.args.committee.now c.args.logs.now c.in_ok-listing.listing
    (listed c.args.committee.now c.args.logs.now c.loop-log.log-index c.in_ok-gathered.gathered c.loop-log.gathered c.in_ok-listing.listing (omega (arith, c.loop-log-test.false)) c.in_ok-gathered.ensures.committee c.in_ok-gathered.ensures.headers
    c.in_ok-gathered.ensures.votes c.loop-log.invariant.grown c.in_ok-listing.ensures)

-- the answers are those to the votes that were listed
answered : (committee : List ℕ) (l : Gathered) (votes : List SignedVote) (answers given : List Bool) → l.committee ≡ committee → votes ≡ l.votes → given ≡ answers → AllZip (IsAnswerOn committee) votes answers
    → AllZip (IsAnswerOn l.committee) l.votes given
answered committee l votes answers given under of same zip =
    subst (λ (k : List ℕ). AllZip (IsAnswerOn k) l.votes given) (sym under)
    (subst (λ (vs : List SignedVote). AllZip (IsAnswerOn committee) vs given) of (subst (AllZip (IsAnswerOn committee) votes) (sym same) zip))

pub of-requires-clause-answers : goal.of-requires-clause-answers
of-requires-clause-answers c =
    answered c.args.committee.now c.in_ok-listing.listing c.votes.result.now c.in_ok-answers.answers.items c.deref.result.now
    (c.in_ok-listing.ensures.committee ∙ c.loop-log.invariant.grown.committee ∙ c.in_ok-gathered.ensures.committee) c.votes.ensures.value c.deref.ensures.value c.in_ok-answers.ensures

pub returns-clause-ok : goal.returns-clause-ok
returns-clause-ok c =
    let committee = c.args.committee.now in
    let ls = c.args.logs.now in
    let i = c.loop-log.log-index in
    let g = c.loop-log.gathered in
    let listing = c.in_ok-listing.listing in
    let l : length ls ≤ i = omega (arith, c.loop-log-test.false) in
    let union = listed committee ls i c.in_ok-gathered.gathered g listing l c.in_ok-gathered.ensures.committee c.in_ok-gathered.ensures.headers c.in_ok-gathered.ensures.votes c.loop-log.invariant.grown c.in_ok-listing.ensures in
    let zip = answered committee listing c.votes.result.now c.in_ok-answers.answers.items c.deref.result.now union.under c.votes.ensures.value c.deref.ensures.value c.in_ok-answers.ensures in
    evidence_from committee ls listing c.deref.result.now c.loop-log.reports.items c.in_ok-of.field-0 union
    (subst (λ (k : List ℕ). AllZip (IsAnswerOn k) listing.votes c.deref.result.now) union.under zip)
    (subst (λ (xs : List ReceivedLog). AllZip IsReportOf xs c.loop-log.reports.items) (take_all i ls l) c.loop-log.invariant.reports) c.in_ok-of.ensures
