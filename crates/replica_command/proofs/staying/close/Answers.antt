use Rattle.std.proofs.Common.{◌≡◌, [], List, append_assoc, arith, ap, length, subst, sym, take, ◌∙◌, refl, rules}
use Rattle.std.specs.Prelude.{map}
use Rattle.std.specs.List.Sorted.{IsPermutation}
use Rattle.std.proofs.Math.Seq.{take-append_seam}
use Rattle.blocks.specs.Replica.{Stored}
use Rattle.vote_desk.specs.Receipts.{receipts_of}
use Rattle.vote_desk.specs.declared.reply.Receipt.{Receipt}
use Rattle.vote_desk.specs.declared.session.Session.{Session}
use Rattle.std.proofs.lemmas.Grind.{common_steps}
use Rattle.replica_command.specs.declared.worker.Done.{Done}
use Rattle.replica_command.proofs.Gathering.{all_yielded, map_push_both}
use Rattle.replica_command.proofs.staying.close.Goals as goal

pub loop-one-preserved : goal.loop-one-preserved
loop-one-preserved g c =
    let s = c.in-Some.ensures.steps in (
      search (rules, append_assoc),
      rw c.in_ok-push.ensures.items
          (map_push_both (λ (x : Session g.row.N.Denot g.N.DeskNaming). x.receipts.items) (λ (d : Done g.row.N.Denot g.N.DeskNaming). d.session.receipts.items)
          c.loop-one.sessions.items c.loop-one.yielded c.in-Some.one.session c.in-Some.one c.loop-one.invariant.1 refl),
    )

pub returns-in-Ok-clause-receipts : goal.returns-in-Ok-clause-receipts
returns-in-Ok-clause-receipts g c =
    let s = c.in-None.ensures.steps in
    let none : c.loop-one.one-iterator.rest.items ≡ [] = grind (arith, common_steps) in
    let whole = all_yielded c.loop-one.yielded c.loop-one.one-iterator.rest.items c.args.done.items none c.loop-one.invariant.0 in
    subst (λ (rs : List (List Receipt)). IsPermutation (receipts_of rs) c.in-Ok.closed.receipts.items)
    (c.loop-one.invariant.1 ∙ ap (λ (ds : List (Done g.row.N.Denot g.N.DeskNaming)). map (λ (d : Done g.row.N.Denot g.N.DeskNaming). d.session.receipts.items) ds) whole)
    c.in-Ok.ensures.receipts

pub returns-in-Ok-clause-begins : goal.returns-in-Ok-clause-begins
returns-in-Ok-clause-begins g c =
    let opening = g.N.DeskNaming.opening in
    let fits = c.in-Ok.ensures.keeps.list.fits in
    sym (ap (λ (list : List Stored). take (length opening) list) fits.begins ∙ take-append_seam opening fits.more)
