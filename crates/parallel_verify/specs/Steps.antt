-- What replay sees of the frames of a log. docs/DEFINITIONS.md, "Sound sources".
use Rattle.std.specs.Prelude.{◌≡◌, ◌↔◌, ℕ, Bool, IsTrue, List, map}
use Rattle.std.specs.List.{list_any}
use Rattle.blocks.specs.Headers.{Header}
use Rattle.blocks.specs.Replica.{Stored}
use Rattle.blocks.specs.Replay.{IsLegal, replay}
use Rattle.log_format.specs.EntryReading.{entry_in}
use Rattle.log_format.specs.EntryText.{stored_in}
use Rattle.parallel_verify.specs.declared.steps.Steps.{Steps}

-- of a frame that spells an entry: whether the replica voted, the block, and its parent
abbrev pub step_in : List ℕ → Stored
step_in frame = stored_in (entry_in frame)

abbrev pub steps_in : List (List ℕ) → List Stored
steps_in frames = map step_in frames

-- it is a vote
abbrev pub is_vote : Stored → Bool
is_vote x = x.voted

abbrev pub has_vote : List Stored → Bool
has_vote steps = list_any is_vote steps

-- of frames that spell entries: what they leave, one after the other, whether each is legal after those before it, and whether one of
-- them has a vote of the replica
pub record AreReplayed (genesis : Header) (frames : List (List ℕ)) (s : Steps) : Type 0 where
  pub left : s.left ≡ replay genesis (steps_in frames)
  pub legal : IsTrue s.are_legal ↔ IsLegal genesis (steps_in frames)
  pub voted : s.has_voted ≡ has_vote (steps_in frames)
