use Rattle.vote_desk.proofs.Moments.{bounded_drawn}
use Rattle.vote_desk.proofs.signing.draw.Goals as goal

pub returns-clause-not_again : goal.returns-clause-not_again
returns-clause-not_again g c =
    bounded_drawn g.D.Disk c.args.indices.now c.next.new.self c.next.ensures.keys c.next.ensures.any_moment c.next.ensures.bounded

pub returns-in_err-index-clause-not_again : goal.returns-in_err-index-clause-not_again
returns-in_err-index-clause-not_again g c =
    bounded_drawn g.D.Disk c.args.indices.now c.next.new.self c.next.ensures.keys c.next.ensures.any_moment c.next.ensures.bounded
