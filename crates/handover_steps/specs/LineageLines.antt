-- The lines on the steps of a lineage.
use Rattle.std.specs.Prelude.{◌≡◌, ◌+◌, ◌++◌, ℕ, zero, suc, List, [], Option, Some, None, codes, decimal, length, slice_index_or}
use Rattle.hex.specs.Hex.{encode_lower}
use Rattle.blocks.specs.Headers.{Header}
use Rattle.handover_steps.specs.JudgedSteps.{Lineage}
use Rattle.handover_steps.specs.StepRefusals.{step_refusal_name, step_refusal_number}
use Rattle.handover_steps.specs.Steps.{Step}
use Rattle.handover_steps.specs.declared.refusal.StepRefusal.{StepRefusal}

-- ---- a good step

-- " new S of W" where there is a renewal, else " by hand"
unfoldable pub way_text : Option ℕ → ℕ → List ℕ
way_text (Some weight) total = codes " new " ++ decimal weight ++ codes " of " ++ decimal total
way_text None total = codes " by hand"

-- "step N chain ID .."
unfoldable pub chain_line : ℕ → List ℕ → Option ℕ → ℕ → List ℕ
chain_line n chain weight total = codes "step " ++ decimal n ++ codes " chain " ++ encode_lower chain ++ way_text weight total ++ codes "\n"

abbrev pub step_line : ℕ → Step → List ℕ
step_line n t = chain_line n t.chain t.new_weight t.total

-- what stands after the last
abbrev pub no_step : Step
no_step = record { chain = []; block = record { view = 0; parent_view = 0; parent = []; payload = [] }; new_weight = None; total = 0; kinds = [] }

-- step k, counted from 0
abbrev pub nth_step : List Step → ℕ → Step
nth_step steps k = slice_index_or steps k no_step

-- the first n steps, which are numbered from 1
abbrev pub steps_upto : List Step → ℕ → List ℕ
steps_upto steps zero = []
steps_upto steps (suc n) = steps_upto steps n ++ step_line (n + 1) (nth_step steps n)

abbrev pub steps_text : List Step → List ℕ
steps_text steps = steps_upto steps (length steps)

-- ---- how they end

-- "step N refused NUMBER NAME"
unfoldable pub refused_line : ℕ → StepRefusal → List ℕ
refused_line n refusal = codes "step " ++ decimal n ++ codes " refused " ++ decimal (step_refusal_number refusal) ++ codes " " ++ step_refusal_name refusal ++ codes "\n"

-- "step M"
unfoldable pub later_text : ℕ → List ℕ
later_text later = codes "step " ++ decimal later

-- "step M is there without step N"
unfoldable pub without_line : ℕ → ℕ → List ℕ
without_line later n = later_text later ++ codes " is there without step " ++ decimal n ++ codes "\n"

-- "followed N"
unfoldable pub followed_line : ℕ → List ℕ
followed_line n = codes "followed " ++ decimal n ++ codes "\n"

-- after so many good steps; a later one may be there that has none before it
abbrev pub last_line : ℕ → Option StepRefusal → Option ℕ → List ℕ
last_line count (Some refusal) later = refused_line (count + 1) refusal
last_line count None (Some later) = without_line later (count + 1)
last_line count None None = followed_line count

-- ---- all lines

abbrev pub lineage_text : Lineage → Option ℕ → List ℕ
lineage_text l later = steps_text l.steps ++ last_line (length l.steps) l.refused later

-- 0 where all steps were followed
abbrev pub lineage_status : Option StepRefusal → Option ℕ → ℕ
lineage_status None None = 0
lineage_status None (Some later) = 1
lineage_status (Some refusal) later = 1
