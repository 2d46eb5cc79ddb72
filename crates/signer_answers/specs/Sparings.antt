-- How much a signer that goes over by itself leaves for later, and for which blocks too little is left.
use Rattle.std.specs.Prelude.{ℕ, Bool, true, false, nat_lt, if◌then◌else◌}
use Rattle.vote_desk.specs.Sparing.{has_more}
use Rattle.vote_desk.specs.declared.parts.Left.{Left}
use Rattle.signer_answers.specs.declared.sparing.Reserve.{Reserve}
use Rattle.signer_answers.specs.declared.sparing.Reserve.TheVariants as reserve

-- what a block leaves that neither hands over, nor stands above one that does, nor on genesis: what the blocks need by which the ledger
-- goes over
abbrev pub ordinary_spare : Left
ordinary_spare = record { indices = 512; entries = 512 }

-- what any other leaves: what endorsements and restarts need
abbrev pub last_spare : Left
last_spare = record { indices = 64; entries = 0 }

-- of a signer that leaves anything for later: for all blocks, for ordinary ones, or for none
abbrev pub reserve_left : Left → Reserve
reserve_left left =
    if nat_lt last_spare.indices left.indices then (if has_more left ordinary_spare then reserve.None else reserve.Ordinary)
    else reserve.Handover

abbrev pub reserve_of : Bool → Left → Reserve
reserve_of true left = reserve_left left
reserve_of false left = reserve.None
