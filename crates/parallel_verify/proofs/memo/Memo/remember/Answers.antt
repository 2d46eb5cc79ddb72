use Rattle.std.proofs.Common.{◌≡◌, Bool, List, Option, Some, subst}
use Rattle.certificates.specs.declared.vote.SignedVote.{SignedVote}
use Rattle.parallel_verify.specs.Answers.{answer_in}
use Rattle.parallel_verify.proofs.Remembered.{others_stay, still_answers}
use Rattle.parallel_verify.proofs.memo.Memo.remember.Goals as goal

pub invariant_of-self-2 : goal.invariant_of-self-2
invariant_of-self-2 g c =
    still_answers g.N.BoardNaming.committee c.self.inside.posted c.insert.new.self c.args.vote c.args.is_good c.in_ok-insert.ensures.updates c.self.invariant c.requires

pub returns-clause-others : goal.returns-clause-others
returns-clause-others g c v other =
    subst (λ (posted : List (SignedVote × Option Bool)). answer_in c.insert.new.self.entries v ≡ answer_in posted v) c.self.view_is
    (others_stay c.self.inside.posted c.insert.new.self c.args.vote (Some (Some c.args.is_good)) c.in_ok-insert.ensures.updates v other)
