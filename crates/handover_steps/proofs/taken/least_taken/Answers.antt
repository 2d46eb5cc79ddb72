use Rattle.std.proofs.Common.{◌≡◌, ◌+◌, ◌∷◌, [], ℕ, List, take, sym, subst, arith}
use Rattle.std.proofs.lemmas.List.{take_all}
use Rattle.std.specs.declared.alloc.Global.{Global}
use Rattle.std.specs.declared.vec.Vec.{Vec}
use Rattle.handover_steps.specs.Least.{IsLeast}
use Rattle.handover_steps.specs.Successors.{IsTakenNumber, files_of}
use Rattle.handover_steps.proofs.TakenLaws.{least_more}
use Rattle.handover_steps.proofs.taken.least_taken.Goals as goal

pub loop-file-preserved : goal.loop-file-preserved
loop-file-preserved c =
    let old = c.args.old.now in
    let new = c.args.new.now in
    let here = subst (λ (file : List ℕ). IsLeast (IsTakenNumber (file ∷ []) old new) c.least_of_file.result) c.deref.ensures.value c.least_of_file.ensures in
    subst (IsLeast (IsTakenNumber (old ∷ files_of (take (c.loop-file.file-index + 1) c.args.earlier.now)) old new)) (sym c.lesser-least.ensures) (
    least_more c.args.earlier.now c.loop-file.file-index c.file-item.result old new c.loop-file.least c.least_of_file.result (omega arith) c.file-item.is c.loop-file.invariant here)

pub returns : goal.returns
returns c =
    let past = c.loop-file-test.false in
    let all : take c.loop-file.file-index c.args.earlier.now ≡ c.args.earlier.now = take_all c.loop-file.file-index c.args.earlier.now (omega arith) in
    subst (λ (fs : List (Vec ℕ Global)). IsLeast (IsTakenNumber (c.args.old.now ∷ files_of fs) c.args.old.now c.args.new.now) c.loop-file.least) all c.loop-file.invariant
