-- What a log shows a replica of its own votes.
use Rattle.std.specs.Prelude.{◌≡◌, ◌⊎◌, ◌<◌, ◌≤◌, ℕ, List, [], Option, Some, None, length, slice_index_or}
use Rattle.std.specs.List.{All}
use Rattle.blocks.specs.Replica.{Stored}
use Rattle.blocks.specs.declared.ballot.Ballot.{Ballot}
use Rattle.certificates.specs.Certificates.{Certificate, vote_of}
use Rattle.certificates.specs.Votes.{ballot_of}
use Rattle.certificates.specs.declared.vote.SignedVote.{SignedVote}
use Rattle.log_format.specs.EntryText.{Entry, IsEntryOf, own_vote_of}
use Rattle.stable_log.specs.declared.disk.Disk.{Ghosts}
use Rattle.vote_log.specs.declared.log_error.LogError.{LogError}
use Rattle.vote_log.specs.declared.log_error.LogError.TheVariants.{Memory}
use Rattle.vote_desk.specs.declared.reply.Receipt.{Receipt}
use Rattle.replica_backups.specs.Forgotten.{IsFirstForgotten, IsForgottenVote}
use Rattle.replica_backups.specs.OwnVotes.{ShowsForeignVote}
use Rattle.signer_answers.specs.Guards.{IsFoundIn, IsSound, IsSpoiltBesideVote, IsUnread, votes_found}

module _ {D : Type 0} (disk : Ghosts D) (committee : List ℕ) (replica : ℕ) (opening : List Stored) where
  -- ---- a certificate, which need not be good

  -- the first of its votes that is a good one of this replica and is not the one in the log, which is sound
  pub record ShowsForgotten (c : Certificate) (v : SignedVote) : Type 0 where
    pub found : Option Receipt
    pub read : IsFoundIn disk committee replica opening [] c.view found
    pub first : IsFirstForgotten committee replica (votes_found found) c v
    pub sound : IsSound committee found

  -- it has no vote of this replica, or none that is good and is not the one in the log
  abbrev pub ShowsNone : Certificate → Type 0
  ShowsNone c =
      (ShowsForeignVote replica [] c → ⊥)
      ⊎ ((found : Option Receipt) × IsFoundIn disk committee replica opening [] c.view found
      × All (λ d. IsForgottenVote committee replica (votes_found found) (vote_of c d) → ⊥) c.entries)

  -- ---- an entry's own vote, of a log that is said to be this replica's

  -- it is a good one, and is not the one in the log, which is sound
  pub record OwnVoteShows (e : Entry) (v : SignedVote) : Type 0 where
    pub own : own_vote_of e replica ≡ Some v
    pub found : Option Receipt
    pub read : IsFoundIn disk committee replica opening [] v.view found
    pub forgotten : IsForgottenVote committee replica (votes_found found) v
    pub sound : IsSound committee found

  -- there is none, or one that is not good or is the one in the log
  abbrev pub OwnVoteShowsNone : Entry → Type 0
  OwnVoteShowsNone e =
      (own_vote_of e replica ≡ None)
      ⊎ ((v : SignedVote) × (own_vote_of e replica ≡ Some v) × ((found : Option Receipt) × IsFoundIn disk committee replica opening [] v.view found
      × (IsForgottenVote committee replica (votes_found found) v → ⊥)))

  -- ---- an entry, of the log of the replica of this number

  -- its certificate shows it; or else, where the log is this replica's, its own vote
  abbrev pub EntryShows : ℕ → Entry → SignedVote → Type 0
  EntryShows owner e v = ShowsForgotten e.certificate v ⊎ (ShowsNone e.certificate × (owner ≡ replica) × OwnVoteShows e v)

  -- its certificate shows none, nor does its own vote where the log is this replica's
  abbrev pub EntryShowsNone : ℕ → Entry → Type 0
  EntryShowsNone owner e = ShowsNone e.certificate × (owner ≡ replica → OwnVoteShowsNone e)

  -- ---- a frame

  -- the frame spells an entry that shows it
  pub record FrameShows (owner : ℕ) (frame : List ℕ) (v : SignedVote) : Type 0 where
    pub entry : Entry
    pub spelled : IsEntryOf frame entry
    pub shows : EntryShows owner entry v

  -- .. shows none
  abbrev pub FrameShowsNone : ℕ → List ℕ → Type 0
  FrameShowsNone owner frame = (e : Entry) → IsEntryOf frame e → EntryShowsNone owner e

  -- ---- some frames

  -- from this frame on up to another, none shows it
  abbrev pub ShowNone : ℕ → List (List ℕ) → (from end : ℕ) → Type 0
  ShowNone owner frames from end = (k : ℕ) → from ≤ k → k < end → FrameShowsNone owner (slice_index_or frames k [])

  -- the first that shows it, by a vote on this ballot
  pub record IsFirstShown (owner : ℕ) (frames : List (List ℕ)) (from : ℕ) (ballot : Ballot) : Type 0 where
    pub place : ℕ
    pub since : from ≤ place
    pub there : place < length frames
    pub vote : SignedVote
    pub shows : FrameShows owner (slice_index_or frames place []) vote
    pub on : ballot ≡ ballot_of vote
    pub before : ShowNone owner frames from place

  -- some desk's log can't be read in some view, or what it has there is spoilt
  abbrev pub IsOwnRefusal : LogError → Type 0
  IsOwnRefusal e = ((view : ℕ) × IsUnread disk committee replica opening [] view e) ⊎ IsSpoiltBesideVote disk committee replica opening e

  -- .. or memory was refused
  abbrev pub IsLookingRefusal : LogError → Type 0
  IsLookingRefusal e = (e ≡ Memory) ⊎ IsOwnRefusal e
