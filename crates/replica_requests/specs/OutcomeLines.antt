-- The line that tells an outcome, ended by a line feed.
use Rattle.std.specs.Prelude.{ℕ, List, [], ◌++◌, Option, Some, None, codes, decimal}
use Rattle.hex.specs.Hex.{encode_lower}
use Rattle.blocks.specs.HeaderReading.{header_refusal_number}
use Rattle.certificates.specs.BlockChecks.{block_refusal_number}
use Rattle.certificates.specs.CertificateReading.{certificate_refusal_number}
use Rattle.certificates.specs.Votes.{vote_text}
use Rattle.replica_core.specs.Admission.{core_refusal_number}
use Rattle.vote_desk.specs.DeskRefusals.{desk_error_number}
use Rattle.vote_desk.specs.declared.desk_error.DeskError.{DeskError}
use Rattle.vote_desk.specs.declared.desk_error.DeskError.TheVariants as desk
use Rattle.vote_desk.specs.declared.reply.Answer.{Answer}
use Rattle.vote_desk.specs.declared.reply.Answer.TheVariants.{Voted, Raised, Held}
use Rattle.replica_requests.specs.declared.outcome.Outcome.{Outcome}
use Rattle.replica_requests.specs.declared.outcome.Outcome.TheVariants.{Replied, TimedOut, RefusedHeader, RefusedCertificate, RefusedBlock, RefusedByDesk}
use Rattle.replica_requests.specs.declared.outcome_line.LineOutcome.{LineOutcome}
use Rattle.replica_requests.specs.declared.outcome_line.LineOutcome.TheVariants.{Came, BadLine}

-- words and a number
abbrev pub numbered_line : List ℕ → ℕ → List ℕ
numbered_line words number = words ++ decimal number ++ codes "\n"

-- "voted NUMBER HEX", the digits of the vote's bytes, or "raised", or "held"
abbrev pub answer_text : Answer → List ℕ
answer_text (Voted receipt) = codes "voted " ++ decimal receipt.number ++ codes " " ++ encode_lower (vote_text receipt.vote)
answer_text Raised = codes "raised"
answer_text Held = codes "held"

-- " committed ID", where a block is committed
abbrev pub commit_text : Option (List ℕ) → List ℕ
commit_text None = []
commit_text (Some id) = codes " committed " ++ encode_lower id

-- "refused core N", or "desk N" with the number of another refusal
abbrev pub desk_line : DeskError → List ℕ
desk_line (desk.Core refusal) = numbered_line (codes "refused core ") (core_refusal_number refusal)
desk_line refusal = numbered_line (codes "desk ") (desk_error_number refusal)

-- of a request
abbrev pub outcome_line : Outcome → List ℕ
outcome_line (Replied reply) = answer_text reply.act ++ commit_text reply.committed ++ codes "\n"
outcome_line (TimedOut view) = numbered_line (codes "timeout ") view
outcome_line (RefusedHeader refusal) = numbered_line (codes "refused header ") (header_refusal_number refusal)
outcome_line (RefusedCertificate refusal) = numbered_line (codes "refused certificate ") (certificate_refusal_number refusal)
outcome_line (RefusedBlock refusal) = numbered_line (codes "refused block ") (block_refusal_number refusal)
outcome_line (RefusedByDesk refusal) = desk_line refusal

-- of a line
abbrev pub answer_line : LineOutcome → List ℕ
answer_line (Came outcome) = outcome_line outcome
answer_line BadLine = codes "bad line\n"
