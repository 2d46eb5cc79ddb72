-- A culprit forgot a vote.
use Rattle.std.proofs.Common.{List, ◌∷◌, ◌++◌, sym, subst}
use Rattle.std.specs.List.{Contains}
use Rattle.std.proofs.lemmas.List.Elements.{Contains-append_left, Contains-append_right}
use Rattle.blocks.specs.Headers.{Header, IsGenesis}
use Rattle.blocks.specs.Chains.{AllIn, NoCollision}
use Rattle.blocks.specs.declared.ballot.Ballot.{Ballot}
use Rattle.blocks.specs.Replica.{Event, IsRun, headers_of, votes_of}
use Rattle.blocks.specs.Replay.{ballots_in}
use Rattle.blocks.specs.Lives.{headers_of_life, blocks_in}
use Rattle.blocks.proofs.LivesHold.{every_life}
use Rattle.blocks.proofs.Runs.{no_double_vote, no_lock_violation}
use Rattle.blocks.proofs.Within.{AllIn-first}
use Rattle.certificates.specs.Votes.{ballot_of}
use Rattle.certificates.specs.declared.vote.SignedVote.{SignedVote}
use Rattle.audit_evidence.specs.Evidence.{Evidence}
use Rattle.audit_commits.specs.Culprits.{Shows}
use Rattle.verdict_format.specs.declared.parts.Shown.{Shown}
use Rattle.verdict_format.specs.declared.parts.Shown.TheVariants.{DoubleVote, LockViolation}
use Rattle.replica_backups.specs.GuardLaws.{ACulpritForgotAVote}

-- the votes of a run break no rule
breaks_none : (e : Evidence) (genesis : Header) (run : List Event) (t : List Header) (v w : SignedVote) (h : Shown)
    → IsGenesis genesis → IsRun genesis run → NoCollision t → AllIn t e.headers → AllIn t (headers_of run)
    → Contains (votes_of run) (ballot_of v) → Contains (votes_of run) (ballot_of w) → Shows e v w h → ⊥
breaks_none e genesis run t v w DoubleVote g r apart known held hv hw shows = no_double_vote genesis run (ballot_of v) (ballot_of w) r hv hw shows
breaks_none e genesis run t v w (LockViolation h) g r apart known held hv hw shows =
    let three = AllIn-first t h.earlier (h.parent ∷ h.later ∷ headers_of run) (known h.earlier shows.0.earlier)
    (AllIn-first t h.parent (h.later ∷ headers_of run) (known h.parent shows.0.parent)
    (AllIn-first t h.later (headers_of run) (known h.later shows.0.later) held)) in
    no_lock_violation genesis run (ballot_of v) (ballot_of w) h.earlier h.parent h.later g r hv hw
    (λ x y mx my. apart x y (three x mx) (three y my)) shows.1

pub forgot : ACulpritForgotAVote
forgot e genesis replica life list g is found apart culprit knows =
    let run = every_life genesis life list g is found in
    let behind = headers_of_life life ++ blocks_in list in
    let o = culprit.2 in
    let v = culprit.0 in
    let w = culprit.1 in
    let in_run : (b : Ballot) → Contains (ballots_in list) b → Contains (votes_of run.0) b = λ b m. subst (λ (l : List Ballot). Contains l b) (sym run.1.votes) m in
    breaks_none e genesis run.0 (e.headers ++ behind) v w o.broken.0 g run.1.is_run apart
    (λ h m. Contains-append_left e.headers behind h m)
    (λ h m. Contains-append_right e.headers behind h (run.1.headers h m))
    (in_run (ballot_of v) (knows v o.earlier o.earlier_by))
    (in_run (ballot_of w) (knows w o.later o.later_by))
    o.broken.1
