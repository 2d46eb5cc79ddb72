use Rattle.std.proofs.Common.{[], ◌∷◌, ◌++◌, ◌≡◌, List, sym, ap, ◌∙◌}
use Rattle.stable_log.specs.declared.memory_disk.Call.{Call}
use Rattle.stable_log.specs.declared.memory_disk.Call.TheVariants.{Sync}
use Rattle.stable_log.specs.Memory.{DiskState}
use Rattle.stable_log.proofs.Memory.{state_push}
use Rattle.stable_log.proofs.memory_disk.MemoryDisk.mark.Goals as goal

pub invariant_of-self-2 : goal.invariant_of-self-2
invariant_of-self-2 c =
    let me = c.args.self.now in
    let noted : c.push_reserved.new.self.items ≡ me.calls.items ++ Sync ∷ [] = c.push_reserved.ensures.items ∙ ap (λ (l : List Call). l ++ Sync ∷ []) c.in_ok-reserve.ensures.items in
    record { replayed = me.replayed ∙ ap (λ (s : DiskState). s.bytes) (sym (state_push me.first.items me.calls.items c.push_reserved.new.self.items Sync noted)) }
