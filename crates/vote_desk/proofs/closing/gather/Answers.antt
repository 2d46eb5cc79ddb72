use Rattle.std.proofs.Common.{◌++◌, List, ap, ◌∙◌, append_assoc, arith}
use Rattle.std.specs.Prelude.{map}
use Rattle.vote_desk.specs.declared.reply.Receipt.{Receipt}
use Rattle.vote_desk.specs.declared.session.Session.{Session}
use Rattle.vote_desk.specs.Receipts.{receipts_of}
use Rattle.vote_desk.proofs.Gathered.{receipts_popped}
use Rattle.vote_desk.proofs.closing.gather.Goals as goal

pub loop-session-init : goal.loop-session-init
loop-session-init g c =
    let e = c.in-Some.ensures in
    let s = c.into_parts-all.ensures in
    let rest = c.pop.new.self.items in (
      omega (arith, e.len, s.share.0),
      s.share.1,
      ap (λ (rs : List Receipt). rs ++ receipts_of (map (λ (x : Session g.row.N.Denot g.N.DeskNaming). x.receipts.items) rest)) s.receipts
          ∙ receipts_popped (λ (x : Session g.row.N.Denot g.N.DeskNaming). x.receipts.items) c.args.sessions.items rest c.in-Some.first e.items,
    )

pub loop-session-preserved : goal.loop-session-preserved
loop-session-preserved g c =
    let e = c.in-Some-pop.ensures in
    let s = c.into_parts-share.ensures in
    let x = c.in_ok-extend_from_slice.ensures in
    let d = c.deref.ensures in
    let m = c.merge.ensures in
    let i = c.loop-session.invariant in
    let old = c.loop-session.receipts.items in
    let rest = c.pop-in-loop-session.new.self.items in
    let behind = receipts_of (map (λ (x : Session g.row.N.Denot g.N.DeskNaming). x.receipts.items) rest) in (
      omega (arith, e.len, s.share.0, m.parts, i.0),
      omega (arith, x.len, d.len, m.amount, s.share.1, i.1),
      ap (λ (rs : List Receipt). rs ++ behind) (x.items ∙ ap (λ (y : List Receipt). old ++ y) (d.value ∙ s.receipts))
          ∙ append_assoc old c.in-Some-pop.session.receipts.items behind
          ∙ ap (λ (y : List Receipt). old ++ y) (receipts_popped (λ (x : Session g.row.N.Denot g.N.DeskNaming). x.receipts.items) c.loop-session.left.items rest c.in-Some-pop.session e.items)
          ∙ i.2,
    )
