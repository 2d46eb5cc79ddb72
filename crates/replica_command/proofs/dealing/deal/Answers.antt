use Rattle.std.proofs.Common.{subst, sym}
use Rattle.std.specs.List.{All}
use Rattle.std.proofs.lemmas.List.Elements.{All-get_or, All-push, All-set}
use Rattle.replica_command.specs.Dealing.{IsRequestIn}
use Rattle.replica_command.specs.declared.worker.Asked.{Asked}
use Rattle.replica_command.specs.declared.worker.Work.{Work}
use Rattle.replica_command.proofs.Gathering.{dealt_one_more}
use Rattle.replica_command.proofs.dealing.deal.Goals as goal

pub loop-number-preserved-in-Continue-branch-2 : goal.loop-number-preserved-in-Continue-branch-2
loop-number-preserved-in-Continue-branch-2 g c =
    let requests = c.args.requests.items in
    let s = c.in-Some-2.ensures.steps in
    let one = dealt_one_more requests c.loop-number.number-iterator.count c.next-in-loop-number.new.self.count c.in-Some-2.number c.in-Some-2.request
    c.loop-number.number-iterator.iter.rest.items c.next-in-loop-number.new.self.iter.rest.items c.loop-number.invariant.0 s.0.0 s.1 s.2 in
    let IsDealt = λ (w : Work g.row.N.Denot g.N.DeskNaming). All (IsRequestIn requests) w.requests.items in
    let asked : Asked = record { number = c.in-Some-2.number; request = c.in-Some-2.request } in
    let work = c.in-Some-get_mut.work.now in
    let v = c.in-Some-get_mut.ensures in
    let before = subst IsDealt (sym v.value) (All-get_or IsDealt c.loop-number.all.items c.unwrap_or-turn.result work v.item.3.0 c.loop-number.invariant.1) in (
      one.1,
      All-set IsDealt c.loop-number.all.items c.unwrap_or-turn.result (record { session = work.session; requests = c.push-in-Some-get_mut.new.self })
          (rw c.in_ok-push-2.ensures.items (All-push (IsRequestIn requests) work.requests.items asked before one.0)) c.loop-number.invariant.1,
    )

pub loop-number-preserved-in_default : goal.loop-number-preserved-in_default
loop-number-preserved-in_default g c =
    let s = c.in-Some-2.ensures.steps in
    let one = dealt_one_more c.args.requests.items c.loop-number.number-iterator.count c.next-in-loop-number.new.self.count c.in-Some-2.number c.in-Some-2.request
    c.loop-number.number-iterator.iter.rest.items c.next-in-loop-number.new.self.iter.rest.items c.loop-number.invariant.0 s.0.0 s.1 s.2 in
    (one.1, c.loop-number.invariant.1)
