use Rattle.std.proofs.Common.{ℕ, IfOk, ap, subst}
use Rattle.vote_log.specs.Logs.{LogState}
use Rattle.vote_desk.specs.Desks.{DeskView, desk_of}
use Rattle.vote_desk.specs.Votes.{IsFoundSince, IsVoteFound}
use Rattle.vote_desk.proofs.Moments.{ok_so}
use Rattle.vote_desk.proofs.OnlyRead.{keeps_read, moved_log}
use Rattle.vote_desk.proofs.OpeningVotes.{found_since}
use Rattle.vote_desk.proofs.state.DeskState.vote_in.Goals as goal

pub invariant_of-self : goal.invariant_of-self
invariant_of-self g c =
    let i = c.self.inside in
    let d : DeskView _ = record { core = i.core; seeds = i.trees.items; indices = i.indices; log = i.log; released = i.book.total } in
    let same = c.vote_in.ensures.same in
    record {
      desk = keeps_read g.D.Disk.bytes g.D.Disk.images g.D.Disk.moment g.D.Disk.images_since g.N.DeskNaming.committee g.N.DeskNaming.replica g.N.DeskNaming.opening d c.vote_in.new.log c.self.invariant.desk same.4
          (moved_log i.log c.vote_in.new.log same.0 same.1 same.2 same.3);
      replica_is = c.self.invariant.replica_is;
      chain_is = c.self.invariant.chain_is;
      opened_is = c.self.invariant.opened_is;
    }

pub returns-clause-ok : goal.returns-clause-ok
returns-clause-ok g c =
    rw (← c.self.view_is) (subst (λ (n : ℕ). IfOk c.vote_in.result (IsVoteFound g.D.Disk.bytes n c.self.inside.log c.args.view)) c.self.invariant.replica_is c.vote_in.ensures.ok)

pub returns-clause-same : goal.returns-clause-same
returns-clause-same g c =
    let i = c.self.inside in
    let same = c.vote_in.ensures.same in
    rw (← c.self.view_is) (record {
      same = ap (λ (l : LogState _). desk_of i.core i.trees.items i.indices l i.book.total) (moved_log i.log c.vote_in.new.log same.0 same.1 same.2 same.3);
      untouched = same.4;
    })

pub returns-clause-first_refusal : goal.returns-clause-first_refusal
returns-clause-first_refusal g c = rw (← c.self.view_is) c.vote_in.ensures.first_refusal

pub returns-clause-since : goal.returns-clause-since
returns-clause-since g c =
    let i = c.self.inside in
    let n = g.N.DeskNaming in
    let d : DeskView _ = record { core = i.core; seeds = i.trees.items; indices = i.indices; log = i.log; released = i.book.total } in
    rw (← c.self.view_is) (ok_so (IsVoteFound g.D.Disk.bytes n.replica i.log c.args.view) (IsFoundSince i.log.steps c.args.view) c.vote_in.result
    (subst (λ (k : ℕ). IfOk c.vote_in.result (IsVoteFound g.D.Disk.bytes k i.log c.args.view)) c.self.invariant.replica_is c.vote_in.ensures.ok)
    (found_since g.D.Disk n.committee n.replica n.opening d c.self.invariant.desk c.args.view))
