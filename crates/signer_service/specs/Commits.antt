-- The last commit that was told.
use Rattle.std.specs.Prelude.{◌≡◌, ◌-◌, ℕ, List, Option, Some, None, if◌then◌else◌, nat_lt}
use Rattle.blocks.specs.Genesis.{genesis_of}
use Rattle.blocks.specs.Headers.{Header}
use Rattle.blocks.specs.declared.ballot.Ballot.{Ballot}
use Rattle.certificates.specs.BlockChecks.{IsChecked}
use Rattle.certificates.specs.Certificates.{Certificate}
use Rattle.vote_desk.specs.Deliveries.{CommitsIn}

-- some block with a good certificate commits a block of this id, two views below its parent's
abbrev pub IsCommitOf : List ℕ → Ballot → Type 0
IsCommitOf committee ballot =
    (b : Header) × (certificate : Certificate) × IsChecked committee b certificate
    × CommitsIn (genesis_of committee) b ballot.id × (ballot.view ≡ b.parent_view - 2)

-- the one of the greater view; the one that was told first, where both have one
abbrev pub later_of : Option Ballot → Ballot → Option Ballot
later_of None ballot = Some ballot
later_of (Some before) ballot = if nat_lt before.view ballot.view then Some ballot else Some before
