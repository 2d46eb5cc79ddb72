-- The votes that are remembered.
use Rattle.std.specs.Prelude.{◌+◌, ◌-◌, ◌++◌, ◌∷◌, [], List, drop, length}
use Rattle.signer_votes.specs.declared.claim.Claim.{Claim}
use Rattle.signer_votes.specs.declared.memory.TheConstants.{MOST_REMEMBERED}

-- the oldest is forgotten where there is no place for one more
abbrev pub with_a_place : List Claim → List Claim
with_a_place votes = drop (length votes + 1 - MOST_REMEMBERED) votes

-- the last 256, by arrival
abbrev pub after : List Claim → Claim → List Claim
after votes vote = with_a_place votes ++ vote ∷ []
