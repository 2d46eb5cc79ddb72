use Rattle.std.proofs.Common.{◌∷◌, [], ◌∙◌, ◌<◌, List, ℕ, arith, sym, subst, get_or, take, drop, length}
use Rattle.base_streams.specs.Streams.{Wrote, WrotePart}
use Rattle.std.proofs.lemmas.List.{take_rest, take-append-drop}
use Rattle.base_text.specs.Printed.{escape}
use Rattle.base_text.proofs.Pieces.{on_err, byte_escaped, first_and_rest, next, stop}
use Rattle.base_text.proofs.path.write_printed.Goals as goal

pub returns-in_err-write_all-clause-err : goal.returns-in_err-write_all-clause-err
returns-in_err-write_all-clause-err g c =
    let rest = c.loop-rest.rest.now in
    let begun = c.loop-rest.invariant in
    let byte = get_or rest 0 0 in
    let some : 0 < length rest = grind arith in
    let part = subst (λ (t : List ℕ). WrotePart (g.W.Sink.text c.loop-rest.out) (g.W.Sink.text c.write_all.new.out) t) c.escaped.ensures c.in_err-write_all.ensures.err in
    on_err _ _ (stop _ _ _ c.args.text.now begun.0 rest (byte ∷ []) (drop 1 rest) (escape byte) begun.1 (first_and_rest rest some)
    (byte_escaped byte (c.plain_len-n.ensures.stop c.if-n-eq0.true some)) begun.2 part)

pub returns-in_err-write_all-2-clause-err : goal.returns-in_err-write_all-2-clause-err
returns-in_err-write_all-2-clause-err g c =
    let rest = c.loop-rest.rest.now in
    let begun = c.loop-rest.invariant in
    let n = c.plain_len-n.result in
    on_err _ _ (stop _ _ _ c.args.text.now begun.0 rest (take n rest) (drop n rest) (take n rest) begun.1 (sym (take-append-drop n rest))
    c.plain_len-n.ensures.plain begun.2 c.in_err-write_all-2.ensures.err)

pub loop-rest-preserved : goal.loop-rest-preserved
loop-rest-preserved g c =
    let rest = c.loop-rest.rest.now in
    let begun = c.loop-rest.invariant in
    let n = c.plain_len-n.result in
    let here = next _ _ _ c.args.text.now begun.0 rest (take n rest) (drop n rest) (take n rest) begun.1 (sym (take-append-drop n rest))
    c.plain_len-n.ensures.plain begun.2 c.in_ok-write_all-2.ensures.ok in
    rw (take_rest rest n) (here.0, here.1, here.2, c.in_ok-write_all-2.ensures.counted.kept ∙ begun.3)

pub loop-rest-preserved-then-n-eq0 : goal.loop-rest-preserved-then-n-eq0
loop-rest-preserved-then-n-eq0 g c =
    let rest = c.loop-rest.rest.now in
    let begun = c.loop-rest.invariant in
    let byte = get_or rest 0 0 in
    let some : 0 < length rest = grind arith in
    let wrote = subst (λ (t : List ℕ). Wrote (g.W.Sink.text c.loop-rest.out) (g.W.Sink.text c.write_all.new.out) t) c.escaped.ensures c.in_ok-write_all.ensures.ok in
    let here = next _ _ _ c.args.text.now begun.0 rest (byte ∷ []) (drop 1 rest) (escape byte) begun.1 (first_and_rest rest some)
    (byte_escaped byte (c.plain_len-n.ensures.stop c.if-n-eq0.true some)) begun.2 wrote in
    rw (take_rest rest 1) (here.0, here.1, here.2, c.in_ok-write_all.ensures.counted.kept ∙ begun.3)
