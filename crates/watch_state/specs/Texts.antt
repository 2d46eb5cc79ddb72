-- The text of a part: the export of its frames. docs/FORMATS.md, "Export".
use Rattle.std.specs.Prelude.{◌≡◌, ◌++◌, ℕ, List, codes, length}
use Rattle.std.specs.List.{flat_map}
use Rattle.log_format.specs.Exports.{frame_text}

-- the text so far, and how many frames it has
pub record Written : Type 0 where
  pub text : List ℕ
  pub count : ℕ

-- it has these frames
pub record HasFrames (frames : List (List ℕ)) (w : Written) : Type 0 where
  pub text : w.text ≡ codes "HSL1" ++ flat_map frame_text frames
  pub count : w.count ≡ length frames
