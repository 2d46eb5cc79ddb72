use Rattle.std.proofs.Common.{◌≡◌, ◌-◌, ◌∙◌, ℕ, ap, arith, length, min}
use Rattle.replica_requests.specs.Intakes.{HeldLine, held}
use Rattle.replica_requests.specs.declared.reading.TheConstants.{LONGEST_LINE}
use Rattle.replica_requests.proofs.Holding.{held_past, held_within, same_held}
use Rattle.replica_requests.proofs.reading.OpenLine.add.Goals as goal

pub returns-then-n-piece : goal.returns-then-n-piece
unfolding held
returns-then-n-piece c line is =
    let piece = c.args.piece.now in
    let bytes = ap (λ (h : HeldLine). h.bytes) (c.self.view_is ∙ is) in
    let len : c.len.result ≡ length c.self.inside.bytes.items = grind arith in
    let n = c.min-n.ensures ∙ ap (λ (k : ℕ). min (LONGEST_LINE - k) (length piece)) len in
    same_held _ _ _ _ (held_past LONGEST_LINE line piece c.self.inside.bytes.items c.extend_from_slice.new.self.items c.min-n.result bytes n
    c.in_ok-extend_from_slice.ensures.items c.if-n-piece.true)

pub returns-else-n-piece : goal.returns-else-n-piece
unfolding held
returns-else-n-piece c line is =
    let piece = c.args.piece.now in
    let bytes = ap (λ (h : HeldLine). h.bytes) (c.self.view_is ∙ is) in
    let flag = ap (λ (h : HeldLine). h.is_too_long) (c.self.view_is ∙ is) in
    let len : c.len.result ≡ length c.self.inside.bytes.items = grind arith in
    let n = c.min-n.ensures ∙ ap (λ (k : ℕ). min (LONGEST_LINE - k) (length piece)) len in
    same_held _ _ _ _ (held_within LONGEST_LINE line piece c.self.inside.bytes.items c.extend_from_slice.new.self.items c.self.inside.is_too_long c.min-n.result bytes flag n
    c.in_ok-extend_from_slice.ensures.items c.if-n-piece.false)
