-- The laws of replicas that were put back to a backup.
use Rattle.std.specs.Prelude.{◌≡◌, ◌++◌, ℕ, List}
use Rattle.std.specs.List.{Contains}
use Rattle.blocks.specs.Genesis.{genesis_of}
use Rattle.blocks.specs.Headers.{Header, IsGenesis}
use Rattle.blocks.specs.Chains.{NoCollision}
use Rattle.blocks.specs.Lives.{Stay, IsLife, IsFound, released_in, headers_of_life, blocks_in}
use Rattle.blocks.specs.Replica.{Stored}
use Rattle.blocks.specs.Replay.{IsLegal, ballots_in, replay}
use Rattle.certificates.specs.BlockChecks.{IsChecked}
use Rattle.certificates.specs.Certificates.{Certificate}
use Rattle.certificates.specs.Votes.{ballot_of}
use Rattle.certificates.specs.declared.vote.SignedVote.{SignedVote}
use Rattle.audit_evidence.specs.Evidence.{Evidence}
use Rattle.audit_commits.specs.Culprits.{IsCulprit}
use Rattle.replica_backups.specs.OwnVotes.{ShowsForeignVote, ShowsLaterVote, ShowsUnknownVote, SignsOnly, SignsOnlyFor}

-- no checked block shows it one
abbrev pub ALifeShowsNoUnknownVote : Type 0
ALifeShowsNoUnknownVote =
    (committee : List ℕ) (replica : ℕ) (life : List Stay) (list : List Stored) (h : Header) (c : Certificate)
    → IsLife (genesis_of committee) life → IsFound (genesis_of committee) life list
    → IsChecked committee h c → SignsOnlyFor committee replica (released_in life) c
    → ShowsUnknownVote replica list c → ⊥

-- .. nor one that it did not sign
abbrev pub ALogShowsNoForeignVote : Type 0
ALogShowsNoForeignVote =
    (committee : List ℕ) (replica : ℕ) (own : List SignedVote) (h : Header) (c : Certificate)
    → IsChecked committee h c → SignsOnly committee replica own c → ShowsForeignVote replica own c → ⊥

-- what an unknown vote is seen by is seen by its signature too
abbrev pub AnUnknownVoteIsForeign : Type 0
AnUnknownVoteIsForeign =
    (replica : ℕ) (own : List SignedVote) (list : List Stored) (c : Certificate)
    → ((v : SignedVote) → Contains own v → Contains (ballots_in list) (ballot_of v))
    → ShowsUnknownVote replica list c → ShowsForeignVote replica own c

abbrev pub ALaterVoteIsUnknown : Type 0
ALaterVoteIsUnknown =
    (genesis : Header) (replica : ℕ) (list : List Stored) (c : Certificate)
    → IsLegal genesis list → ShowsLaterVote replica (replay genesis list).stored_vote_view c
    → ShowsUnknownVote replica list c

-- so a replica that goes on from a backup is a correct replica of a life that had no more
abbrev pub ABackupIsOfALife : Type 0
ABackupIsOfALife =
    (genesis : Header) (life : List Stay) (backup lost : List Stored)
    → IsGenesis genesis → IsLife genesis life → IsFound genesis life (backup ++ lost)
    → (other : List Stay) × IsLife genesis other × IsFound genesis other backup

-- the vote is another replica's, or this list has it
abbrev pub IsKnownTo : ℕ → List Stored → SignedVote → Type 0
IsKnownTo replica list v = v.replica ≡ replica → Contains (ballots_in list) (ballot_of v)

-- this list has all votes of the replica that are in evidence
abbrev pub KnowsAllVotes : Evidence → ℕ → List Stored → Type 0
KnowsAllVotes e replica list = (v : SignedVote) → Contains e.votes v → IsKnownTo replica list v

-- where no two different headers of the evidence and of the life have one id
abbrev pub ACulpritForgotAVote : Type 0
ACulpritForgotAVote =
    (e : Evidence) (genesis : Header) (replica : ℕ) (life : List Stay) (list : List Stored)
    → IsGenesis genesis → IsLife genesis life → IsFound genesis life list
    → NoCollision (e.headers ++ (headers_of_life life ++ blocks_in list))
    → IsCulprit e replica → KnowsAllVotes e replica list → ⊥
