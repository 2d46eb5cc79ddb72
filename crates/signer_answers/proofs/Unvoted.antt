-- An answer that is no vote.
use Rattle.std.proofs.Common.{◌≡◌, ◌≢◌, List, refl}
use Rattle.replica_core.specs.declared.plan.Act.TheVariants.{Vote}
use Rattle.vote_desk.specs.Deliveries.{act_of, with_receipt}
use Rattle.vote_desk.specs.declared.reply.Answer.{Answer}
use Rattle.vote_desk.specs.declared.reply.Answer.TheVariants.{Voted, Raised, Held}
use Rattle.vote_desk.specs.declared.reply.Receipt.{Receipt}

-- it adds no receipt
pub unvoted_adds_none : (receipts : List Receipt) (a : Answer) → act_of a ≢ Vote → receipts ≡ with_receipt receipts a
unvoted_adds_none receipts (Voted receipt) unvoted = absurd (unvoted refl)
unvoted_adds_none receipts Raised unvoted = refl
unvoted_adds_none receipts Held unvoted = refl
