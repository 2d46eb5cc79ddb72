use Rattle.std.proofs.Common.{◌≡◌, [], List, Result, Ok, append_assoc, arith, length, get_or, rules, subst, sym, ◌∙◌}
use Rattle.std.specs.Prelude.{IfOk}
use Rattle.std.specs.declared.alloc.AllocError.{AllocError}
use Rattle.std.specs.List.{AllZip}
use Rattle.std.proofs.lemmas.Slice.Zip.{all_zipped_more}
use Rattle.std.proofs.lemmas.Grind.{common_steps}
use Rattle.replica_command.specs.Dealing.{AreWorked}
use Rattle.replica_command.specs.declared.worker.Done.{Done}
use Rattle.replica_command.specs.declared.worker.Work.{Work}
use Rattle.replica_command.proofs.Gathering.{all_yielded, gathered}
use Rattle.replica_command.proofs.staying.work_all.Goals as goal

pub loop-one-preserved : goal.loop-one-preserved
loop-one-preserved g c =
    let s = c.in-Some.ensures.steps in (
      search (rules, append_assoc),
      rw c.in_ok-push.ensures.items
          (all_zipped_more _ c.loop-one.yielded c.loop-one.all.items c.in-Some.one c.in_ok-one.field-0 c.loop-one.invariant.1 c.in_ok-one.was),
    )

pub returns : goal.returns
returns g c =
    let Gives = λ (w : Work g.row.N.Denot g.N.DeskNaming) (d : Done g.row.N.Denot g.N.DeskNaming).
    AreWorked g.D.Disk g.N.DeskNaming.committee g.N.DeskNaming.replica g.N.DeskNaming.opening w.requests.items d.session.receipts.items d.outcomes.items in
    let s = c.in-None.ensures.steps in
    let calls = c.in_ok-done.ensures in
    let results = c.in_ok-done.done.items in
    let jobs = c.args.work.items in
    let start = c.into_iter-one-iterator.ensures.into_iter_gives in
    let none : c.loop-one.one-iterator.rest.items ≡ [] = grind (arith, common_steps) in
    let whole = all_yielded c.loop-one.yielded c.loop-one.one-iterator.rest.items results none (c.loop-one.invariant.0 ∙ start.0) in
    let same : length results ≡ length jobs = omega (arith, calls.len) in
    let zip : AllZip (λ (r : Result (Done g.row.N.Denot g.N.DeskNaming) AllocError) (d : Done g.row.N.Denot g.N.DeskNaming). r ≡ Ok d) results c.loop-one.all.items =
    subst (λ (rs : List (Result (Done g.row.N.Denot g.N.DeskNaming) AllocError)). AllZip (λ (r : Result (Done g.row.N.Denot g.N.DeskNaming) AllocError) (d : Done g.row.N.Denot g.N.DeskNaming). r ≡ Ok d) rs c.loop-one.all.items)
    whole c.loop-one.invariant.1 in
    gathered Gives jobs results c.loop-one.all.items same
    (λ i j r within.
    let call = (calls.each i r within).1 in let met = call.call.met in
    subst (λ (w : Work g.row.N.Denot g.N.DeskNaming). IfOk (get_or results i r) (Gives w)) (sym (call.job_is j)) (search rules)) zip
