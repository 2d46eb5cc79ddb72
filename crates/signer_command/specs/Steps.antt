-- A piece of the step by which a chain was left, as it is handed out. docs/FORMATS.md, 'Request for a piece of a step'.
use Rattle.std.specs.Prelude.{◌≡◌, ◌<◌, ◌≤◌, ◌+◌, ◌++◌, ℕ, List, Option, Some, None, codes, drop, length, min, take}
use Rattle.byteorder.specs.Endian.{big_bytes}
use Rattle.log_request.specs.StepRequests.{IsStepRequest, step_request_text}
use Rattle.log_request.specs.declared.step.StepPiece.{StepPiece}
use Rattle.log_request.specs.declared.step.StepPiece.TheVariants.{File, Renewal, LightProof}
use Rattle.log_request.specs.declared.step.StepRequest.{StepRequest}
use Rattle.handover_folder.specs.Names.{chain_folder}

-- the name of the file of a piece
abbrev pub piece_name : StepPiece → List ℕ
piece_name File = codes "next.hsc"
piece_name Renewal = codes "next.hsr"
piece_name LightProof = codes "next.hsh"

-- where it lies: in the folder of the chain that was left
abbrev pub piece_path : List ℕ → StepRequest → List ℕ
piece_path folder r = chain_folder folder r.chain ++ (codes "/" ++ piece_name r.piece)

-- what is handed out of a file with these bytes: its first 500,000, and how many they are before them
abbrev pub step_reply : List ℕ → List ℕ
step_reply file = big_bytes 4 (min 500000 (length file)) ++ take 500000 file

-- what goes out next, after so many bytes of a reply, and how many went out then: a part of it that is not empty, or none after the last
abbrev pub IsNextPart : List ℕ → (before after : ℕ) → Option (List ℕ) → Type 0
IsNextPart reply before after (Some part) = (0 < length part) × (part ≡ take (length part) (drop before reply)) × (after ≡ before + length part)
IsNextPart reply before after None = (length reply ≤ before) × (after ≡ before)
