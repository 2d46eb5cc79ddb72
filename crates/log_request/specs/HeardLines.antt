-- The lines that say what was heard of servers.
use Rattle.std.specs.Prelude.{ℕ, ◌≡◌, ◌+◌, ◌++◌, List, [], ◌∷◌, Option, codes, decimal, length}
use Rattle.base_streams.specs.Streams.{WrotePart}
use Rattle.log_request.specs.declared.heard.Heard.{Heard}
use Rattle.log_request.specs.declared.heard.Heard.TheVariants.{Nothing, Named, Unnamed, NoLog}

-- of the source of this number
abbrev pub heard_line : ℕ → Heard → List ℕ
heard_line number Nothing = []
heard_line number Named = []
heard_line number Unnamed = codes "source " ++ decimal number ++ codes " was asked without naming the chain\n"
heard_line number NoLog = codes "source " ++ decimal number ++ codes " has no log of this chain\n"

-- of each, from this number on
abbrev pub heard_text : ℕ → List Heard → List ℕ
heard_text number [] = []
heard_text number (heard ∷ more) = heard_line number heard ++ heard_text (number + 1) more

-- the first of these lines were told, of so many sources of which something was heard
pub record TellsHeard (count : ℕ) (before after : Option (List ℕ)) : Type 0 where
  pub heard : List Heard
  pub each : length heard ≡ count
  pub wrote : WrotePart before after (heard_text 0 heard)
