use Rattle.std.proofs.Common.{◌≡◌, ◌+◌, ◌<◌, ◌++◌, [], ◌∷◌, List, ℕ, length, get_or, take, sym, ap, ◌∙◌, subst, arith, rules}
use Rattle.std.proofs.lemmas.Grind.{common_steps}
use Rattle.std.proofs.lemmas.List.{take_more}
use Rattle.stable_log.specs.declared.memory_disk.Call.{Call}
use Rattle.stable_log.specs.declared.memory_disk.Call.TheVariants.{Write, Sync}
use Rattle.stable_log.specs.Crash.{Torn}
use Rattle.stable_log.specs.Disk.{written}
use Rattle.stable_log.specs.Memory.{disk_state}
use Rattle.stable_log.proofs.Memory.{seen_step, left_step, synced_step}
use Rattle.stable_log.proofs.Told.{ok_both}
use Rattle.stable_log.proofs.memory_disk.MemoryDisk.crash.Goals as goal
use Rattle.stable_log.proofs.memory_disk.MemoryDisk.crash.Goals.{in-Sync+in_ok-left-in-Sync, in-Write+in_ok-left-in-Write+in_ok-seen-in-Write}

pub loop-call-preserved : goal.loop-call-preserved
loop-call-preserved c =
    let first = c.args.self.now.first.items in
    let calls = c.args.self.now.calls.items in
    let i = c.loop-call.call-index in
    let lt : i < length calls = omega arith in
    let inv = c.loop-call.invariant in
    let item = c.call-item.is in
    elim c.match-call.branch [
      | in-Sync+in_ok-left-in-Sync w ↦
          let at : get_or calls i Sync ≡ Sync = first_of (cc, search rules, grind (arith, common_steps)) in
          let next : take (i + 1) calls ≡ take i calls ++ Sync ∷ [] = take_more calls i Sync lt ∙ ap (λ (k : Call). take i calls ++ k ∷ []) at in
          let same : c.match-call.seen.items ≡ (disk_state first (take i calls)).bytes = ap (λ v. v.items) w.seen-is ∙ inv.seen in
          let fresh : c.match-call.left.items ≡ c.loop-call.seen.items = search rules in
          record {
            seen = seen_step first calls i Sync c.match-call.seen.items next same;
            left = left_step first calls i Sync c.match-call.left.items next (fresh ∙ inv.seen);
            new = λ is. fresh ∙ sym (ap (λ v. v.items) w.seen-is);
            old = λ is. synced_step first calls i Sync c.match-call.left.items next (fresh ∙ inv.seen);
          }
      | in-Write+in_ok-left-in-Write+in_ok-seen-in-Write w ↦
          let call = Write w.in-Write.at w.in-Write.piece in
          let at : get_or calls i call ≡ call = first_of (cc, search rules, grind (arith, common_steps)) in
          let next : take (i + 1) calls ≡ take i calls ++ call ∷ [] = take_more calls i call lt ∙ ap (λ (k : Call). take i calls ++ k ∷ []) at in
          let old : w.deref-in-Write-3.result.now ≡ (disk_state first (take i calls)).bytes = w.deref-in-Write-3.ensures.value ∙ inv.seen in
          let stored : c.match-call.seen.items ≡ written (disk_state first (take i calls)).bytes w.in-Write.at w.in-Write.piece.items =
          ap (λ v. v.items) w.seen-is ∙ w.in_ok-seen-in-Write.ensures ∙ (λ k. written (old k) w.in-Write.at (w.deref-in-Write-4.ensures.value k)) in
          let left = w.in_ok-left-in-Write.left.items in
          let torn1 : Torn w.in-Write.at (length w.in-Write.piece.items) w.deref-in-Write.result.now left =
          subst (λ (p : List ℕ). Torn w.in-Write.at (length p) w.deref-in-Write.result.now left) w.deref-in-Write-2.ensures.value w.in_ok-left-in-Write.ensures.torn in
          let torn2 : Torn w.in-Write.at (length w.in-Write.piece.items) c.loop-call.left.items left =
          subst (λ (o : List ℕ). Torn w.in-Write.at (length w.in-Write.piece.items) o left) w.deref-in-Write.ensures.value torn1 in
          let torn3 : Torn w.in-Write.at (length w.in-Write.piece.items) c.loop-call.left.items c.match-call.left.items =
          subst (λ (l : List ℕ). Torn w.in-Write.at (length w.in-Write.piece.items) c.loop-call.left.items l) (sym (ap (λ v. v.items) w.left-is)) torn2 in
          let now : c.match-call.left.items ≡ left = ap (λ v. v.items) w.left-is in
          record {
            seen = seen_step first calls i call c.match-call.seen.items next stored;
            left = left_step first calls i call c.match-call.left.items next (c.loop-call.left.items, inv.left, torn3);
            new = λ is.
                let from : w.deref-in-Write.result.now ≡ w.deref-in-Write-3.result.now = w.deref-in-Write.ensures.value ∙ inv.new is ∙ sym w.deref-in-Write-3.ensures.value in
                let piece : w.deref-in-Write-2.result.now ≡ w.deref-in-Write-4.result.now = w.deref-in-Write-2.ensures.value ∙ sym w.deref-in-Write-4.ensures.value in
                now ∙ w.in_ok-left-in-Write.ensures.new is ∙ (λ k. written (from k) w.in-Write.at (piece k)) ∙ sym (ap (λ v. v.items) w.seen-is ∙ w.in_ok-seen-in-Write.ensures);
            old = λ is. synced_step first calls i call c.match-call.left.items next (now ∙ w.in_ok-left-in-Write.ensures.old is ∙ w.deref-in-Write.ensures.value ∙ inv.old is);
          }
    ]

pub returns-clause-durable : goal.returns-clause-durable
returns-clause-durable c = ok_both c.new.result _ _ _ c.new.ensures.told c.new.ensures.durable (λ d told durable image left.
    let same : d.bytes.items ≡ c.loop-call.left.items = cc in
    durable image left ∙ sym same)
