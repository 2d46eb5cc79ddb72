use Rattle.std.proofs.Common.{◌≡◌, ◌+◌, ◌-◌, ◌∙◌, List, ℕ, arith, ap, subst, length, take, drop}
use Rattle.std.proofs.lemmas.List.{drop-drop, length-drop, take_rest}
use Rattle.base_streams.specs.Streams.{Wrote}
use Rattle.base_streams.proofs.Writing.{wrote_more}
use Rattle.base_streams.proofs.sink.write_all.Goals as goal

pub loop-rest-preserved : goal.loop-rest-preserved
loop-rest-preserved g c =
    let bytes = c.args.bytes.now in
    let rest = c.loop-rest.rest.now in
    let n = c.in_ok-n.n in
    let done = length bytes - length rest in
    let before = c.loop-rest.invariant in
    let here : rest ≡ drop done bytes = before.1 in
    let few = c.in_ok-n.ensures.taken.0 in
    let place : length bytes - (length rest - n) ≡ done + n = omega (arith, before.0, few) in
    let taken = subst (λ (r : List ℕ). Wrote (g.W.Sink.text c.loop-rest.out) (g.W.Sink.text c.write.new.self) (take n r)) here c.in_ok-n.ensures.ok in
    rw (take_rest rest n, length-drop n rest, place) (
      omega (arith, before.0),
      ap (λ (r : List ℕ). drop n r) here ∙ drop-drop n done bytes,
      wrote_more _ _ _ bytes done n before.2 taken,
      c.in_ok-n.ensures.counted.kept ∙ before.3,
    )
