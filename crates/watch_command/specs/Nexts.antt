-- When a committee may follow the one that is watched: the committed handover names its file, and it renews the one before, where there is
-- a renewal.
use Rattle.std.specs.Prelude.{◌≡◌, ◌++◌, ℕ, List, [], Option, codes, decimal}
use Rattle.hex.specs.Hex.{encode_lower}
use Rattle.blocks.specs.Genesis.{chain_id_of}
use Rattle.blocks.specs.Weights.{total_of}
use Rattle.handover_blocks.specs.Handovers.{handover_payload}
use Rattle.handover_steps.specs.LineageLines.{way_text}
use Rattle.handover_steps.specs.Steps.{IsRenewalIfAny, weight_by}
use Rattle.handover_renewals.specs.Renewals.{Renewal}
use Rattle.handover_steps.specs.Successors.{IsSuccessorFile}
use Rattle.watch_command.specs.declared.next.Following.{Following}

-- ---- the file

-- its committee may come after the old one, and it is the file that a block with this payload hands over to
pub record IsNamed (old payload file : List ℕ) : Type 0 where
  pub successor : IsSuccessorFile [] old file
  pub names : payload ≡ handover_payload file

-- ---- the committee that follows

-- .. and by these bytes, if there are any, it renews the old one
pub record MayFollow (old payload file : List ℕ) (bytes : Option (List ℕ)) (r : Option Renewal) : Type 0 where
  pub named : IsNamed old payload file
  pub renewed : IsRenewalIfAny old file bytes r

-- what is told of it
pub record IsToldOf (old file : List ℕ) (r : Option Renewal) (f : Following) : Type 0 where
  pub chain : f.chain ≡ chain_id_of file
  pub new_weight : f.new_weight ≡ weight_by old file r
  pub total : f.total ≡ total_of old

abbrev pub Follows : (old payload file : List ℕ) → Option (List ℕ) → Following → Type 0
Follows old payload file bytes f = (r : Option Renewal) × MayFollow old payload file bytes r × IsToldOf old file r f

-- ---- lines

-- "committee N ", behind the number of the round
unfoldable pub committee_text : ℕ → List ℕ
committee_text number = codes "committee " ++ decimal number ++ codes " "

-- "goes-over N chain ID new S of W", or ".. by hand"
unfoldable pub goes_over_news : List ℕ → ℕ → Following → List ℕ
goes_over_news stamp number f =
    stamp ++ codes "goes-over " ++ decimal number ++ codes " chain " ++ encode_lower f.chain ++ way_text f.new_weight f.total ++ codes "\n"

-- "stands N chain ID"
unfoldable pub stands_news : List ℕ → ℕ → List ℕ → List ℕ
stands_news stamp number chain = stamp ++ codes "stands " ++ decimal number ++ codes " chain " ++ encode_lower chain ++ codes "\n"
