use Rattle.std.proofs.Common.{◌≡◌, List, [], sym, subst, arith}
use Rattle.std.specs.List.{All}
use Rattle.std.proofs.lemmas.List.Elements.{All-push}
use Rattle.vote_desk.specs.declared.session.Session.{Session}
use Rattle.vote_desk.proofs.opening.deal.Goals as goal

pub loop-i-preserved : goal.loop-i-preserved
loop-i-preserved g c =
    let S = Session g.row.N.Denot g.N.DeskNaming in
    let i = c.loop-i.invariant in
    let p = c.in_ok-push.ensures in
    let s = c.split_off-share.ensures in (
      omega (arith, i.0, s.parts_left),
      omega (arith, i.1, s.amount_left),
      omega (arith, i.2, p.len),
      subst (λ (xs : List S). All (λ (x : S). x.receipts.items ≡ []) xs) (sym p.items) (All-push (λ (x : S). x.receipts.items ≡ []) c.loop-i.all.items c.new.result i.3 c.new.ensures),
    )

pub returns-clause-none : goal.returns-clause-none
returns-clause-none g c = c.loop-i.invariant.3
