use Rattle.std.proofs.Common.{subst}
use Rattle.blocks.specs.Headers.{Header}
use Rattle.vote_desk.specs.Firsts.{IsMarkedAgain, IsMarkedOnce}
use Rattle.vote_desk.proofs.desk.deliver_once_to.Goals as goal

pub deliver_again_to-requires-clause-again : goal.deliver_again_to-requires-clause-again
deliver_again_to-requires-clause-again g c =
    subst (λ (h : Header). IsMarkedAgain c.args.state.now c.args.mark.now h) c.header.ensures.value (c.is_marked_again.ensures.again c.if-is_marked_again.true)

pub deliver_first_to-requires-clause-once : goal.deliver_first_to-requires-clause-once
deliver_first_to-requires-clause-once g c =
    subst (λ (h : Header). IsMarkedOnce c.args.state.now c.args.mark.now h) c.header.ensures.value (c.is_marked_again.ensures.once c.if-is_marked_again.false)
