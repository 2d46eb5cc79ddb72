-- What a certificate shows a replica.
use Rattle.std.proofs.Common.{◌≡◌, ◌⊎◌, if◌then◌else◌, ℕ, ◌≤◌, List, [], ◌∷◌, ◌++◌, Bool, true, false, nat_lt, refl, ap, subst, inl, inr, arith}
use Rattle.std.specs.List.{Contains}
use Rattle.std.proofs.lemmas.List.Elements.{All-contains}
use Rattle.blocks.specs.Genesis.{genesis_of}
use Rattle.blocks.specs.Headers.{Header}
use Rattle.blocks.specs.declared.ballot.Ballot.{Ballot}
use Rattle.blocks.specs.Replica.{Stored}
use Rattle.blocks.specs.Replay.{Durable, ballot_in, ballots_in, first_durable, moved_to, replay_entry, replay_from, IsLegalEntry, IsLegalFrom}
use Rattle.blocks.proofs.Members.{Has, Has-from_Contains}
use Rattle.blocks.proofs.LivesHold.{every_life}
use Rattle.certificates.specs.Certificates.{Certificate, vote_of}
use Rattle.certificates.specs.GoodCertificates.{IsGoodCertificate, IsGoodEntry}
use Rattle.certificates.specs.Votes.{IsGoodVote}
use Rattle.certificates.specs.declared.certificate.Endorsement.{Endorsement}
use Rattle.replica_backups.specs.OwnVotes.{ballot_in_certificate}
use Rattle.replica_backups.specs.GuardLaws.{ALaterVoteIsUnknown, ALifeShowsNoUnknownVote, ALogShowsNoForeignVote, AnUnknownVoteIsForeign}

good_entry : (committee : List ℕ) (c : Certificate) (d : Endorsement) → Contains c.entries d → IsGoodCertificate committee c → IsGoodVote committee (vote_of c d)
good_entry committee c d m (inl q) = All-contains (IsGoodEntry committee c) c.entries d q.good m
good_entry committee c d m (inr g) = let n = g.none in let l = m.1 in absurd (omega arith)

pub no_unknown : ALifeShowsNoUnknownVote
no_unknown committee replica life list h c is found checked signs shows =
    let run = every_life (genesis_of committee) life list (record { view = refl; parent_view = refl }) is found in
    let d = shows.own.0 in
    let good = good_entry committee c d shows.own.1 checked.good in
    let released = signs d shows.own.1 shows.own.2 good in
    shows.unknown (subst (λ (l : List Ballot). Contains l (ballot_in_certificate c)) run.1.votes (run.2 (ballot_in_certificate c) released))

-- ---- the votes of a legal list are not above the stored vote view

picked : (b : Bool) (x y : Durable) (view : ℕ) → x.stored_vote_view ≡ view → y.stored_vote_view ≡ view → (let r : Durable = if b then x else y in r.stored_vote_view) ≡ view
picked true x y view e f = e
picked false x y view e f = f

moved_view : (view : ℕ) (d : Durable) (p : Header) → (moved_to view d p).stored_vote_view ≡ view
moved_view view d p = picked (nat_lt d.lock_view p.parent_view) (record { stored_vote_view = view; lock_id = p.parent; lock_view = p.parent_view }) (record { stored_vote_view = view; lock_id = d.lock_id; lock_view = d.lock_view }) view refl refl

rises_at : (d : Durable) (voted : Bool) (b p : Header) → IsLegalEntry d voted b p → d.stored_vote_view ≤ (replay_entry d voted b p).stored_vote_view
rises_at d true b p l = let e = moved_view b.view d p in let k = l.0 in omega arith
rises_at d false b p l = let e = moved_view d.stored_vote_view d p in omega arith

rises : (d : Durable) (xs : List Stored) → IsLegalFrom d xs → d.stored_vote_view ≤ (replay_from d xs).stored_vote_view
rises d [] l = omega arith
rises d (x ∷ xs) l =
    let k = rises_at d x.voted x.block x.parent l.0 in
    let m = rises (replay_entry d x.voted x.block x.parent) xs l.1 in
    omega arith

at_first : (d : Durable) (voted : Bool) (b p : Header) (rest : List Ballot) (ballot : Ballot) → Has (ballot_in voted b ++ rest) ballot → (ballot.view ≤ (replay_entry d voted b p).stored_vote_view) ⊎ Has rest ballot
at_first d true b p rest ballot (inl e) = let k = ap (λ (x : Ballot). x.view) e in let m = moved_view b.view d p in inl (omega arith)
at_first d true b p rest ballot (inr m) = inr m
at_first d false b p rest ballot m = inr m

not_above : (d : Durable) (xs : List Stored) (ballot : Ballot) → IsLegalFrom d xs → Has (ballots_in xs) ballot → ballot.view ≤ (replay_from d xs).stored_vote_view
not_above d [] ballot l m = absurd m
not_above d (x ∷ xs) ballot l m =
    let next = replay_entry d x.voted x.block x.parent in
    elim (at_first d x.voted x.block x.parent (ballots_in xs) ballot m) [
      | inl now ↦ let k = rises next xs l.1 in omega arith
      | inr more ↦ not_above next xs ballot l.1 more
    ]

pub later_is_unknown : ALaterVoteIsUnknown
later_is_unknown genesis replica list c legal shows = record {
  own = shows.own;
  unknown = λ m. let k = not_above (first_durable genesis) list (ballot_in_certificate c) legal (Has-from_Contains (ballots_in list) (ballot_in_certificate c) m) in let l = shows.above in omega arith;
}

pub no_foreign : ALogShowsNoForeignVote
no_foreign committee replica own h c checked signs shows =
    let foreign = shows.2 in
    foreign.unknown (signs shows.0 shows.1 foreign.of (good_entry committee c shows.0 shows.1 checked.good))

pub unknown_is_foreign : AnUnknownVoteIsForeign
unknown_is_foreign replica own list c known shows =
    (shows.own.0, shows.own.1, record { of = shows.own.2; unknown = λ m. shows.unknown (known (vote_of c shows.own.0) m) })
