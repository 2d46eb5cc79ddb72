-- What is told of a block.
use Rattle.std.proofs.Common.{ℕ, List}
use Rattle.blocks.specs.Headers.{Header}
use Rattle.blocks.specs.Replica.{Stored}
use Rattle.certificates.specs.Certificates.{Certificate}
use Rattle.stable_log.specs.declared.disk.Disk.{Ghosts}
use Rattle.vote_desk.specs.declared.reply.Receipt.{Receipt}
use Rattle.replica_requests.specs.declared.request.Request.TheVariants.{Block}
use Rattle.signer_answers.specs.Approvals.{Telling}
use Rattle.signer_answers.specs.BlockAnswers.{IsBlockTold, IsSignerAnswer}
use Rattle.signer_answers.specs.declared.told.Told.{Told}
use Rattle.signer_answers.specs.declared.told.Told.TheVariants as told

-- it is an answer to it
pub block_told : {D : Type 0} (disk : Ghosts D) (committee : List ℕ) (replica : ℕ) (opening : List Stored) (tells : Telling) (receipts : List Receipt) (header : Header) (certificate : Certificate) (it : Told)
    → IsBlockTold disk committee replica opening tells receipts header certificate it → IsSignerAnswer disk committee replica opening tells receipts (Block header certificate) it
block_told disk committee replica opening tells receipts header certificate (told.Came outcome) is = is
block_told disk committee replica opening tells receipts header certificate (told.Again receipt committed) is = is
block_told disk committee replica opening tells receipts header certificate (told.Unread e) is = is
block_told disk committee replica opening tells receipts header certificate (told.PutBack ballot) is = absurd is
block_told disk committee replica opening tells receipts header certificate told.Asking is = is
