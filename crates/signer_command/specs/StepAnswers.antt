-- What answers a request for a piece of a step.
use Rattle.std.specs.Prelude.{◌≡◌, ◌≢◌, ℕ, List, false}
use Rattle.log_request.specs.StepRequests.{IsStepRequest, step_request_text}
use Rattle.log_request.specs.declared.step.StepRequest.{StepRequest}
use Rattle.log_handout.specs.declared.reply.Reply.TheVariants.{NoLog}
use Rattle.stable_log.specs.declared.file_disk.FileDisk.{FileDisk}
use Rattle.signer_command.specs.declared.handing_out.Answering.{Answering}
use Rattle.signer_command.specs.declared.handing_out.Answering.TheVariants.{Desk, Past, Step}
use Rattle.signer_command.specs.declared.step_file.StepFile.{StepFile}

-- a file, from its beginning, by a request that names a chain other than the present one
pub record IsStepOf (chain bytes : List ℕ) (file : StepFile FileDisk) : Type 0 where
  pub request : StepRequest
  pub is : IsStepRequest request
  pub spelled : bytes ≡ step_request_text request
  pub left : request.chain ≢ chain
  pub begun : file.sent ≡ 0

-- such a file; or the eight bytes that say that there is none, of which none went out
abbrev pub IsStepAnswer : (chain bytes : List ℕ) → Answering → Type 0
IsStepAnswer chain bytes (Step file) = IsStepOf chain bytes file
IsStepAnswer chain bytes (Desk reply) = reply ≡ NoLog false
IsStepAnswer chain bytes (Past log) = ⊥
