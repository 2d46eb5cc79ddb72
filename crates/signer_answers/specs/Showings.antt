-- What is kept of a log's having been put back, and what shows a caller that it is.
use Rattle.std.specs.Prelude.{◌≡◌, ◌⊎◌, ℕ, Option, Some}
use Rattle.blocks.specs.Headers.{Header, header_id}
use Rattle.blocks.specs.declared.ballot.Ballot.{Ballot}
use Rattle.certificates.specs.Certificates.{Certificate}
use Rattle.signer_answers.specs.declared.keeper.Keeper.{Ghosts}

-- the certificate is on what this names
pub record IsOfCertificate (c : Certificate) (ballot : Ballot) : Type 0 where
  pub view : ballot.view ≡ c.view
  pub id : ballot.id ≡ c.id

-- the block is what this names
pub record IsOfBlock (b : Header) (ballot : Ballot) : Type 0 where
  pub view : ballot.view ≡ b.view
  pub id : ballot.id ≡ header_id b

-- what this names is what the certificate is on that came with the block, or the block itself
abbrev pub IsOfEither : Header → Certificate → Ballot → Type 0
IsOfEither header certificate ballot = IsOfCertificate certificate ballot ⊎ IsOfBlock header ballot

-- a keeper was called for a certificate, or for a block, on what this names, with how many entries the log had
pub record WasKept {K : Type 0} (keeper : Ghosts K) (ballot : Ballot) : Type 0 where
  pub by : K
  pub header : Header
  pub certificate : Certificate
  pub entries : ℕ
  pub kept : keeper.kept by header certificate entries
  pub on : IsOfEither header certificate ballot

-- the name of the cell that keeps it, and what it was found by
pub record Showing : Type 0 where
  pub of : ℕ
  pub ballot : Ballot

-- a caller has what shows it, of the cell of this name
abbrev pub HasShowing : ℕ → Option Showing → Type 0
HasShowing name shown = (s : Showing) × (shown ≡ Some s) × (s.of ≡ name)
