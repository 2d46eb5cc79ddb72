-- What the program answers once it has a line to print.
use Rattle.std.specs.Prelude.{◌≡◌, ◌⊎◌, ℕ, List, Option}
use Rattle.base_streams.specs.Counting.{one_more}
use Rattle.base_streams.specs.Streams.{Wrote, WrotePart}

-- the whole line was written and the answer is the status, or a write failed behind a first part of the
-- line and the answer is 2
abbrev pub Answers : Option (List ℕ) → Option (List ℕ) → ℕ → ℕ → List ℕ → ℕ → ℕ → Type 0
Answers before after failures failures' line status answer =
    ((answer ≡ status) × (failures' ≡ failures) × Wrote before after line)
    ⊎ ((answer ≡ 2) × (failures' ≡ one_more failures) × WrotePart before after line)
