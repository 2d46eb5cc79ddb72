-- What a signer prints.
use Rattle.std.specs.Prelude.{◌≡◌, ℕ, List, [], ◌++◌, Option, Some, None, codes, decimal}
use Rattle.base_streams.specs.Counting.{one_more}
use Rattle.base_streams.specs.Streams.{Wrote, WrotePart}
use Rattle.signer_command.specs.declared.announcing.Announced.{Announced}
use Rattle.signer_command.specs.declared.announcing.Announced.TheVariants.{NotBegun, Unsaid, Over}

-- where callers connect, as it is printed
pub record Places : Type 0 where
  pub calls : List ℕ
  pub reads : Option (List ℕ)
  pub log : Option (List ℕ)

-- "listening NAME PLACE"
abbrev pub listening_line : List ℕ → List ℕ → List ℕ
listening_line name place = codes "listening " ++ (name ++ (codes " " ++ (place ++ codes "\n")))

abbrev pub listening_line_if : List ℕ → Option (List ℕ) → List ℕ
listening_line_if name (Some place) = listening_line name place
listening_line_if name None = []

-- a line for each place, in this order
abbrev pub listening_text : Places → List ℕ
listening_text places =
    listening_line (codes "calls") places.calls ++ (listening_line_if (codes "read") places.reads ++ listening_line_if (codes "log") places.log)

-- "closed N"
abbrev pub closed_line : ℕ → List ℕ
closed_line count = codes "closed " ++ (decimal count ++ codes "\n")

-- nothing was said where a thread did not begin; all was said, or a write failed
abbrev pub IsAnnounced : Announced → Option (List ℕ) → Option (List ℕ) → ℕ → ℕ → List ℕ → Type 0
IsAnnounced NotBegun before after failures failures' text = (after ≡ before) × (failures' ≡ failures)
IsAnnounced Unsaid before after failures failures' text = WrotePart before after text × (failures' ≡ one_more failures)
IsAnnounced Over before after failures failures' text = Wrote before after text × (failures' ≡ failures)
