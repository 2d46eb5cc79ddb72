-- A certificate that was looked at.
use Rattle.std.proofs.Common.{ℕ, List, [], ap, subst}
use Rattle.std.specs.Prelude.{Option, MatchOption}
use Rattle.std.specs.List.{All}
use Rattle.blocks.specs.Replica.{Stored}
use Rattle.certificates.specs.Certificates.{Certificate, vote_of}
use Rattle.certificates.specs.declared.vote.SignedVote.{SignedVote}
use Rattle.stable_log.specs.declared.disk.Disk.{Ghosts}
use Rattle.vote_desk.specs.declared.reply.Receipt.{Receipt}
use Rattle.vote_log.specs.declared.log_error.LogError.{LogError}
use Rattle.replica_backups.specs.Forgotten.{IsFirstForgotten, IsForgottenVote}
use Rattle.signer_answers.specs.Guards.{IsFoundIn, IsSpoilt, IsSpoiltBesideVote, votes_found}

-- what is found of its votes beside the one that the log has
abbrev pub IsFirstOther : ℕ → List ℕ → Certificate → Option Receipt → Option SignedVote → Type 0
IsFirstOther replica committee c found r =
    MatchOption r (All (λ d. IsForgottenVote committee replica (votes_found found) (vote_of c d) → ⊥) c.entries) (IsFirstForgotten committee replica (votes_found found) c)

module _ {D : Type 0} (disk : Ghosts D) (committee : List ℕ) (replica : ℕ) (opening : List Stored) where
  -- what is found has it in the view of the certificate, in which its votes are
  pub found_of_vote : (c : Certificate) (found : Option Receipt) (v : SignedVote)
      → IsFoundIn disk committee replica opening [] c.view found → IsFirstForgotten committee replica (votes_found found) c v
      → IsFoundIn disk committee replica opening [] v.view found
  found_of_vote c found v read first =
      subst (λ (view : ℕ). IsFoundIn disk committee replica opening [] view found) (ap (λ (x : SignedVote). x.view) first.is) read

  pub spoilt_beside : (c : Certificate) (found : Option Receipt) (v : SignedVote) (e : LogError)
      → IsFoundIn disk committee replica opening [] c.view found → IsFirstForgotten committee replica (votes_found found) c v
      → IsSpoilt committee found e → IsSpoiltBesideVote disk committee replica opening e
  spoilt_beside c found v e read first spoilt = record {
    vote = v;
    found = found;
    read = found_of_vote c found v read first;
    forgotten = first.forgotten;
    spoilt = spoilt;
  }
