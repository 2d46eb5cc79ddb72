use Rattle.std.proofs.Common.{◌≡◌, ◌<◌, ℕ, List, Some, inr, length, set, subst, sym}
use Rattle.std.specs.Prelude.{slice_get}
use Rattle.std.specs.List.{Contains}
use Rattle.audit_evidence.specs.declared.source.SourceReport.{SourceReport}
use Rattle.certificates.specs.declared.vote.SignedVote.{SignedVote}
use Rattle.watch_desk.specs.Desks.{WatchDesk}
use Rattle.watch_desk.specs.Opening.{IsAddedAt}
use Rattle.watch_desk.specs.Sources.{AreTheBad}
use Rattle.watch_desk.specs.Taking.{IsNoted}
use Rattle.watch_desk.proofs.Opened.{added_at}
use Rattle.watch_desk.proofs.desk.WatchDesk.add.Goals as goal

pub bad_votes-requires : goal.bad_votes-requires
bad_votes-requires g c v there =
    (c.in_ok-_bad.ensures.grown.votes v).1 (inr (subst (λ (vs : List SignedVote). Contains vs v) c.votes.ensures there))

pub returns-clause-ok : goal.returns-clause-ok
returns-clause-ok g c =
    let i = c.args.i in
    let d : WatchDesk = record { collected = c.self.inside.collector; sources = c.self.inside.sources.items; told = c.self.inside.told } in
    let there : i < length d.sources = subst (λ (e : WatchDesk). i < length e.sources) (sym c.self.view_is) c.requires.source in
    let new : WatchDesk = record { collected = c.add.new.self; sources = set c.self.inside.sources.items i c.note.new.self; told = c.self.inside.told } in
    let bad : AreTheBad d.collected.gathered.committee c.args.new.now.part.listing.votes c.in_ok-bad.bad.items =
    subst (λ (k : List ℕ). AreTheBad k c.args.new.now.part.listing.votes c.in_ok-bad.bad.items) c.in_ok-_bad.ensures.under
    (subst (λ (vs : List SignedVote). AreTheBad c.add.new.self.gathered.committee vs c.in_ok-bad.bad.items) c.votes.ensures c.in_ok-bad.ensures) in
    subst (λ (e : WatchDesk). IsAddedAt e new i c.args.number c.args.new.now c.in_ok-news.news.items) c.self.view_is
    (added_at d c.add.new.self i c.args.number c.args.new.now c.in_ok-news.news.items c.index_mut.result.now c.note.new.self c.report_at-report.result c.in_ok-bad.bad.items there c.index_mut.ensures.value
    c.in_ok-_bad.ensures.ok bad c.in_ok-_bad.ensures.under
    (subst (λ (rs : List SourceReport). slice_get rs c.args.number ≡ Some c.report_at-report.result) c.reports.ensures c.report_at-report.ensures)
    (subst (λ (vs : List SignedVote). IsNoted c.index_mut.result.now c.note.new.self i c.args.new.now c.report_at-report.result vs c.in_ok-news.news.items) c.deref.ensures.value c.in_ok-news.ensures))
