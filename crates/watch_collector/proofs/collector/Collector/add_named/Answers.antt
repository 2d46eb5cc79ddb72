use Rattle.std.proofs.Common.{◌≡◌, ◌∙◌, List, inr, ap, subst}
use Rattle.std.specs.List.{Contains}
use Rattle.blocks.specs.Headers.{Header}
use Rattle.certificates.specs.declared.vote.SignedVote.{SignedVote}
use Rattle.audit_evidence.specs.Gathering.{Gathered, Grows, IsGatheringRefusal, IsNone}
use Rattle.audit_evidence.proofs.Gatherings.{handed_on}
use Rattle.watch_collector.specs.Collectors.{Collected}
use Rattle.watch_collector.specs.Growing.{AreTheNewOf}
use Rattle.watch_collector.specs.Parts.{PartValue}
use Rattle.watch_collector.proofs.Judging.{grown_new}
use Rattle.watch_collector.proofs.collector.Collector.add_named.Goals as goal

pub returns-in_err-add_headers-clause-err : goal.returns-in_err-add_headers-clause-err
returns-in_err-add_headers-clause-err g c =
    let e = c.in_err-add_headers.field-0.0 in
    let part = c.args.part.now in
    let headers : c.headers.result.now ≡ part.listing.headers = c.headers.ensures ∙ ap (λ (p : PartValue). p.listing.headers) c.part.view_is in
    handed_on c.from_residual-in_err-add_headers.result (IsGatheringRefusal c.args.self.now.gathered (Contains part.listing.headers)) e c.from_residual-in_err-add_headers.ensures.1
    (subst (λ (a : Gathered). IsGatheringRefusal a (Contains part.listing.headers) e) (ap (λ (k : Collected). k.gathered) c.self.view_is)
    (subst (λ (hs : List Header). IsGatheringRefusal c.self.inside.growing (Contains hs) e) headers c.in_err-add_headers.ensures.err))

pub bad_among-requires : goal.bad_among-requires
bad_among-requires g c =
    let part = c.args.part.now in
    let news : AreTheNewOf c.self.inside.growing.votes c.votes.result.now c.in_ok-new.new.items = c.in_ok-new.ensures in
    let first = c.in_ok-add_headers.ensures.ok in
    let second = subst (λ (ws : List SignedVote). Grows c.add_headers.new.self c.add_votes.new.self IsNone (Contains ws)) c.deref-2.ensures.value c.in_ok-add_votes.ensures.ok in
    let grown = grown_new c.self.inside.growing c.add_headers.new.self c.add_votes.new.self c.headers.result.now c.votes.result.now c.in_ok-new.new.items first second news in
    λ v m. (grown.votes v).1 (inr (subst (λ (ws : List SignedVote). Contains ws v) (c.votes-2.ensures ∙ Rattle.std.proofs.Common.sym c.votes.ensures) m))

pub returns-clause-grown : goal.returns-clause-grown
returns-clause-grown g c =
    let part = c.args.part.now in
    let headers : c.headers.result.now ≡ part.listing.headers = c.headers.ensures ∙ ap (λ (p : PartValue). p.listing.headers) c.part.view_is in
    let news : AreTheNewOf c.self.inside.growing.votes part.listing.votes c.in_ok-new.new.items =
    subst (λ (ws : List SignedVote). AreTheNewOf c.self.inside.growing.votes ws c.in_ok-new.new.items) c.votes.ensures c.in_ok-new.ensures in
    let first = subst (λ (hs : List Header). Grows c.self.inside.growing c.add_headers.new.self (Contains hs) IsNone) headers c.in_ok-add_headers.ensures.ok in
    let second = subst (λ (ws : List SignedVote). Grows c.add_headers.new.self c.add_votes.new.self IsNone (Contains ws)) c.deref-2.ensures.value c.in_ok-add_votes.ensures.ok in
    subst (λ (a : Gathered). Grows a c.add_votes.new.self (Contains part.listing.headers) (Contains part.listing.votes)) (ap (λ (k : Collected). k.gathered) c.self.view_is)
    (grown_new c.self.inside.growing c.add_headers.new.self c.add_votes.new.self part.listing.headers part.listing.votes c.in_ok-new.new.items first second news)
