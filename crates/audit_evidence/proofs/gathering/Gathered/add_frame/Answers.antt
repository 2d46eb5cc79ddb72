use Rattle.std.proofs.Common.{◌≡◌, ◌∙◌, sym}
use Rattle.log_format.specs.EntryText.{Entry, IsEntryOf}
use Rattle.audit_evidence.specs.Logs.{HasHeader, HasVote, FrameHasHeader, FrameNamesVote}
use Rattle.audit_evidence.proofs.Gatherings.{grown_as, frame_has_header, frame_names_vote}
use Rattle.audit_evidence.proofs.gathering.Gathered.add_frame.Goals as goal

pub returns-in_ok-add_entry-in-Ok-clause-ok : goal.returns-in_ok-add_entry-in-Ok-clause-ok
returns-in_ok-add_entry-in-Ok-clause-ok g c =
    let frame = c.args.frame.now in
    let a = c.args.self.now in
    let e = c.in-Ok.entry in
    let found = c.in-Ok.ensures.found in
    let one : (f : Entry) → IsEntryOf frame f → f ≡ e = λ f is. c.entries_have_one_spelling.ensures f e is.entry found.entry (sym is.text ∙ found.text) in
    grown_as a c.add_entry.new.self (HasHeader e) (FrameHasHeader frame) (HasVote c.args.replica e) (FrameNamesVote c.args.replica frame)
    (λ h. frame_has_header frame e h found one) (λ v. frame_names_vote c.args.replica frame e v found one) c.in_ok-add_entry-in-Ok.ensures.ok
