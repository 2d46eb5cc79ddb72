use Rattle.std.proofs.Common.{ℕ, List, sym, subst, arith}
use Rattle.log_request.specs.ChainRequests.{IsAskedIn}
use Rattle.log_server.proofs.Asked.{asked_of, asks_nothing}
use Rattle.log_server.proofs.replying.read_asked.Goals as goal

pub returns-in-Some-clause-ok : goal.returns-in-Some-clause-ok
returns-in-Some-clause-ok g c =
    let rest = g.R.Feed.rest in
    asked_of c.args.chain.now (rest c.args.feed.now) (rest c.gather.new.feed) c.in-Ok.request c.in-Some.asked c.in-Ok.ensures.gathered
    (subst (λ (t : List ℕ). IsAskedIn c.args.chain.now t c.in-Some.asked) c.as_bytes.ensures c.in-Some.ensures.found)

pub returns-in-None-clause-refused : goal.returns-in-None-clause-refused
returns-in-None-clause-refused g c =
    let rest = g.R.Feed.rest in
    asks_nothing c.args.chain.now (rest c.args.feed.now) (rest c.gather.new.feed) c.in-Ok.request (omega arith) c.in-Ok.ensures.gathered
    (λ asked is. let no = c.in-None.ensures.only asked (subst (λ (t : List ℕ). IsAskedIn c.args.chain.now t asked) (sym c.as_bytes.ensures) is) in cc)
