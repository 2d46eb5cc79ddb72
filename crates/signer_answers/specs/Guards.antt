-- A vote of this replica that its log lacks: the log was put back to a backup, or the replica's key signs elsewhere.
use Rattle.std.specs.Prelude.{◌≡◌, ◌≢◌, ◌⊎◌, ℕ, List, [], ◌∷◌, Option, Some, None}
use Rattle.std.specs.List.{All, Contains}
use Rattle.blocks.specs.Genesis.{genesis_of}
use Rattle.blocks.specs.Headers.{Header, header_id}
use Rattle.blocks.specs.Replica.{Stored}
use Rattle.blocks.specs.declared.ballot.Ballot.{Ballot}
use Rattle.certificates.specs.Certificates.{Certificate, vote_of}
use Rattle.certificates.specs.GoodCertificates.{IsGoodCertificate}
use Rattle.certificates.specs.Votes.{IsGoodVote, ballot_of}
use Rattle.certificates.specs.declared.certificate.Endorsement.{Endorsement}
use Rattle.certificates.specs.declared.vote.SignedVote.{SignedVote}
use Rattle.stable_log.specs.declared.disk.Disk.{Ghosts}
use Rattle.vote_log.specs.declared.log_error.LogError.{LogError}
use Rattle.vote_log.specs.declared.log_error.LogError.TheVariants.{Device, BadEntry}
use Rattle.vote_desk.specs.DeskRefusals.{from_log}
use Rattle.vote_desk.specs.Released.{RefusesVoteWith}
use Rattle.vote_desk.specs.SomeDesk.{IsDeskOf, SomeDesk}
use Rattle.vote_desk.specs.Votes.{AreFound, IsFoundAsOpened, IsNoneFoundBelow, IsVoteFound}
use Rattle.vote_desk.specs.declared.desk_error.DeskError.{DeskError}
use Rattle.vote_desk.specs.declared.reply.Receipt.{Receipt}
use Rattle.replica_backups.specs.Forgotten.{IsForgottenVote}
use Rattle.replica_backups.specs.OwnVotes.{ShowsForeignVote}
use Rattle.signer_answers.specs.Showings.{IsOfCertificate}

-- the votes that were found in a log
abbrev pub votes_found : Option Receipt → List SignedVote
votes_found (Some receipt) = receipt.vote ∷ []
votes_found None = []

-- why a log can't be read that runs, and for which there is memory
abbrev pub IsUnreadable : LogError → Type 0
IsUnreadable Device = Unit {0}
IsUnreadable (BadEntry number) = Unit {0}
IsUnreadable _ = ⊥

-- ---- whether what a log has can tell of another vote in its view

-- what was found is a good vote, whatever block it is on, or there is none
abbrev pub IsSound : List ℕ → Option Receipt → Type 0
IsSound committee (Some receipt) = IsGoodVote committee receipt.vote
IsSound committee None = Unit {0}

-- it is a vote that is not good, so that bytes of it changed on the disk: its entry is bad
abbrev pub IsSpoilt : List ℕ → Option Receipt → LogError → Type 0
IsSpoilt committee (Some receipt) e = (IsGoodVote committee receipt.vote → ⊥) × (e ≡ BadEntry receipt.number)
IsSpoilt committee None e = ⊥

module _ {D : Type 0} (disk : Ghosts D) (committee : List ℕ) (replica : ℕ) (opening : List Stored) where
  -- ---- what a log has in a view

  -- this is what some desk's log has in a view. Whichever desk that was: where one of these receipts of released votes is in the
  -- view, just that one is found; the opening list's vote in the view is found; and up to its stored vote view none that it lacks
  pub record IsFoundIn (receipts : List Receipt) (view : ℕ) (found : Option Receipt) : Type 0 where
    pub read : SomeDesk (IsDeskOf disk committee replica opening) (λ d. IsVoteFound disk.bytes replica d.log view found)
    pub released : AreFound view receipts found
    pub opened : IsFoundAsOpened opening view found
    pub none_below : IsNoneFoundBelow (genesis_of committee) opening view found

  -- some desk's log can't be read there, or gives something other than was released
  abbrev pub IsUnread : List Receipt → ℕ → LogError → Type 0
  IsUnread receipts view e = RefusesVoteWith disk (IsDeskOf disk committee replica opening) replica view receipts e

  -- .. for want of memory, or since it is stopped, so that the desk refuses
  abbrev pub IsUnreadAs : List Receipt → ℕ → DeskError → Type 0
  IsUnreadAs receipts view refusal = (e : LogError) × IsUnread receipts view e × (IsUnreadable e → ⊥) × (refusal ≡ from_log e)

  -- ---- in a certificate

  -- the certificate has a vote of this replica that is not the one in the log, which is sound
  pub record IsForgotten (receipts : List Receipt) (c : Certificate) : Type 0 where
    pub found : Option Receipt
    pub read : IsFoundIn receipts c.view found
    pub foreign : ShowsForeignVote replica (votes_found found) c
    pub sound : IsSound committee found

  -- .. which is spoilt
  pub record IsSpoiltBeside (receipts : List Receipt) (c : Certificate) (e : LogError) : Type 0 where
    pub found : Option Receipt
    pub read : IsFoundIn receipts c.view found
    pub foreign : ShowsForeignVote replica (votes_found found) c
    pub spoilt : IsSpoilt committee found e

  -- it can't be told whether the certificate is remembered: the log can't be read in its view, or what it has there is spoilt
  abbrev pub IsUndecided : List Receipt → Certificate → LogError → Type 0
  IsUndecided receipts c e = IsUnread receipts c.view e ⊎ IsSpoiltBeside receipts c e

  -- it has no vote of this replica, or the one in the log
  abbrev pub IsRemembered : List Receipt → Certificate → Type 0
  IsRemembered receipts c =
      (ShowsForeignVote replica [] c → ⊥)
      ⊎ ((found : Option Receipt) × IsFoundIn receipts c.view found × (ShowsForeignVote replica (votes_found found) c → ⊥))

  -- a good certificate on what this ballot names has a vote that is not the one in the log
  pub record IsPutBack (receipts : List Receipt) (ballot : Ballot) : Type 0 where
    pub certificate : Certificate
    pub good : IsGoodCertificate committee certificate
    pub forgotten : IsForgotten receipts certificate
    pub on : IsOfCertificate certificate ballot

  -- a vote of this replica in the certificate that is none of those of which these are the receipts
  abbrev pub HasVoteNotOf : List Receipt → Certificate → Type 0
  HasVoteNotOf receipts c =
      (d : Endorsement) × Contains c.entries d × ((vote_of c d).replica ≡ replica) × All (λ r. r.vote ≢ vote_of c d) receipts

  -- what stops a caller is a vote that it was not told itself
  abbrev pub AForgottenVoteIsNotTheCallers : Type 0
  AForgottenVoteIsNotTheCallers = (receipts : List Receipt) (c : Certificate) → IsForgotten receipts c → HasVoteNotOf receipts c

  -- ---- in a log that others hand out

  -- a good vote on what this ballot names, which is not the one in the log, which is sound
  pub record IsForgottenOn (ballot : Ballot) : Type 0 where
    pub vote : SignedVote
    pub found : Option Receipt
    pub read : IsFoundIn [] vote.view found
    pub forgotten : IsForgottenVote committee replica (votes_found found) vote
    pub sound : IsSound committee found
    pub on : ballot ≡ ballot_of vote

  -- beside a good vote the one in the log, which is another, is spoilt
  pub record IsSpoiltBesideVote (e : LogError) : Type 0 where
    pub vote : SignedVote
    pub found : Option Receipt
    pub read : IsFoundIn [] vote.view found
    pub forgotten : IsForgottenVote committee replica (votes_found found) vote
    pub spoilt : IsSpoilt committee found e

  -- a good certificate showed it to a caller, or such a vote in a log
  abbrev pub WasPutBack : Ballot → Type 0
  WasPutBack ballot = ((receipts : List Receipt) × IsPutBack receipts ballot) ⊎ IsForgottenOn ballot

  -- ---- the vote for a block

  -- what is found is a vote for the block, by its id
  abbrev pub IsVoteFor : Header → Option Receipt → Type 0
  IsVoteFor b (Some receipt) = receipt.vote.id ≡ header_id b
  IsVoteFor b None = ⊥

  -- the log has this vote of the replica for the block
  pub record IsVotedBefore (receipts : List Receipt) (b : Header) (receipt : Receipt) : Type 0 where
    pub found : IsFoundIn receipts b.view (Some receipt)
    pub on : receipt.vote.id ≡ header_id b

  -- it has none for it, or can't be read, though it runs and there is memory
  abbrev pub IsNotVotedBefore : List Receipt → Header → Type 0
  IsNotVotedBefore receipts b =
      ((found : Option Receipt) × IsFoundIn receipts b.view found × (IsVoteFor b found → ⊥))
      ⊎ ((e : LogError) × IsUnread receipts b.view e × IsUnreadable e)
