-- A request for a piece of the step by which a chain was left. docs/FORMATS.md, 'Request for a step'.
use Rattle.std.specs.Prelude.{ℕ, ◌≡◌, ◌++◌, ◌∷◌, [], Bool, List, codes, length, nat_eq}
use Rattle.std.specs.List.{starts_with}
use Rattle.log_request.specs.declared.step.StepPiece.{StepPiece}
use Rattle.log_request.specs.declared.step.StepPiece.TheVariants.{File, Renewal, LightProof}
use Rattle.log_request.specs.declared.step.StepRequest.{StepRequest}

-- the number of a piece
abbrev pub piece_number : StepPiece → ℕ
piece_number File = 1
piece_number Renewal = 2
piece_number LightProof = 3

-- the chain's id has 32 bytes
pub record IsStepRequest (r : StepRequest) : Type 0 where
  pub chain : length r.chain ≡ 32

-- its 37 bytes
unfoldable pub step_request_text : StepRequest → List ℕ
step_request_text r = codes "HSL3" ++ (r.chain ++ (piece_number r.piece ∷ []))

-- bytes that begin with its magic
abbrev pub begins_step : List ℕ → Bool
begins_step front = starts_with nat_eq front (codes "HSL3")
