use Rattle.std.proofs.Common.{◌++◌, ◌≤◌, ℕ, List, length, ap, ◌∙◌, arith}
use Rattle.std.proofs.lemmas.List.{take_all}
use Rattle.base_text.specs.Escapes.{escape_byte, escaped}
use Rattle.base_text.proofs.Joining.{put_more}
use Rattle.base_text.proofs.escaping.put_escaped.Goals as goal

pub loop-byte-preserved : goal.loop-byte-preserved
loop-byte-preserved c =
    put_more (escape_byte c.args.inside) c.args.text.now.items c.loop-byte.text.items c.put_byte.new.text.items c.args.piece.now c.loop-byte.byte-index
    0 c.loop-byte-test.true c.loop-byte.invariant c.in_ok-put_byte.ensures

pub returns : goal.returns
returns c =
    let end : length c.args.piece.now ≤ c.loop-byte.byte-index = omega arith in
    c.loop-byte.invariant ∙ ap (λ (xs : List ℕ). c.args.text.now.items ++ escaped c.args.inside xs) (take_all c.loop-byte.byte-index c.args.piece.now end)
