use Rattle.std.proofs.Common.{Err, ap, ◌∙◌}
use Rattle.blocks.specs.Genesis.{genesis_of}
use Rattle.vote_log.specs.declared.log_error.LogError.{LogError}
use Rattle.vote_desk.specs.SomeDesk.{IsDeskOf}
use Rattle.vote_desk.specs.Votes.{IsFoundAsOpened, IsNoneFoundBelow, IsVoteFound, IsVoteInRefusal, RefusesVoteIn}
use Rattle.vote_desk.proofs.Moments.{ok_so, refused_so, some_desk, some_err}
use Rattle.vote_desk.proofs.OpeningVotes.{none_found_below, opened_found}
use Rattle.vote_desk.proofs.desk.vote_in_from.Goals as goal

pub returns-clause-ok : goal.returns-clause-ok
returns-clause-ok g c =
    let o = c.args.state.now in
    let d = c.vote_in-found in
    some_desk (IsDeskOf g.D.Disk g.N.DeskNaming.committee g.N.DeskNaming.replica g.N.DeskNaming.opening) o d.new.self (record { keeps = c.core-core.ensures.keeps; stay = c.core-core.ensures.stay }) (λ found x. IsVoteFound g.D.Disk.bytes g.N.DeskNaming.replica x.log c.args.view found) d.result d.ensures.ok

pub returns-clause-refused : goal.returns-clause-refused
returns-clause-refused g c =
    let o = c.args.state.now in
    let d = c.vote_in-found in
    some_err (IsDeskOf g.D.Disk g.N.DeskNaming.committee g.N.DeskNaming.replica g.N.DeskNaming.opening) o d.new.self (record { keeps = c.core-core.ensures.keeps; stay = c.core-core.ensures.stay }) (record { keeps = c.core-core-2.ensures.keeps; stay = c.core-core-2.ensures.stay }) (RefusesVoteIn g.D.Disk c.args.view) d.result
    (refused_so (IsVoteInRefusal (g.D.Disk.bytes o.log.disk) o.log c.args.view) (λ e. RefusesVoteIn g.D.Disk c.args.view e o d.new.self) d.result d.ensures.first_refusal
    (λ e is refused. record { refused = refused; read = d.ensures.same; cause = λ device. (d.ensures.cause (is ∙ ap (λ (x : LogError). Err x) device)).log }))

pub returns-clause-opened : goal.returns-clause-opened
returns-clause-opened g c =
    let o = c.args.state.now in
    let n = g.N.DeskNaming in
    ok_so (IsVoteFound g.D.Disk.bytes n.replica o.log c.args.view) (IsFoundAsOpened n.opening c.args.view) c.vote_in-found.result c.vote_in-found.ensures.ok
    (opened_found g.D.Disk n.committee n.replica n.opening o c.core-core.ensures.keeps c.args.view)

pub returns-clause-none_below : goal.returns-clause-none_below
returns-clause-none_below g c =
    let o = c.args.state.now in
    let n = g.N.DeskNaming in
    ok_so (IsVoteFound g.D.Disk.bytes n.replica o.log c.args.view) (IsNoneFoundBelow (genesis_of n.committee) n.opening c.args.view) c.vote_in-found.result c.vote_in-found.ensures.ok
    (none_found_below g.D.Disk n.committee n.replica n.opening o c.core-core.ensures.keeps c.args.view)
