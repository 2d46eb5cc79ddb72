use Rattle.std.proofs.Common.{[], ◌∷◌, ◌++◌, ◌≡◌, List, sym, ap, ◌∙◌, rules}
use Rattle.stable_log.specs.declared.memory_disk.Call.{Call}
use Rattle.stable_log.specs.declared.memory_disk.Call.TheVariants.{Write}
use Rattle.stable_log.specs.Disk.{written}
use Rattle.stable_log.specs.Memory.{DiskState, disk_state}
use Rattle.stable_log.proofs.Memory.{state_push}
use Rattle.stable_log.proofs.memory_disk.MemoryDisk.store.Goals as goal

pub invariant_of-self-2 : goal.invariant_of-self-2
invariant_of-self-2 c =
    let me = c.args.self.now in
    let call = Write c.args.at c.in_ok-kept.kept in
    let whole : c.in_ok-kept.kept.items ≡ c.args.piece.now = search rules in
    let noted : c.push_reserved.new.self.items ≡ me.calls.items ++ call ∷ [] = c.push_reserved.ensures.items ∙ ap (λ (l : List Call). l ++ call ∷ []) c.in_ok-reserve.ensures.items in
    let next : c.in_ok-next.next.items ≡ written me.bytes.items c.args.at c.args.piece.now = search rules in
    let stored : written me.bytes.items c.args.at c.args.piece.now ≡ written (disk_state me.first.items me.calls.items).bytes c.args.at c.in_ok-kept.kept.items = λ i. written (me.replayed i) c.args.at (sym whole i) in
    record { replayed = next ∙ stored ∙ ap (λ (s : DiskState). s.bytes) (sym (state_push me.first.items me.calls.items c.push_reserved.new.self.items call noted)) }

pub returns-clause-ok : goal.returns-clause-ok
returns-clause-ok c =
    let me = c.args.self.now in
    let call = Write c.args.at c.in_ok-kept.kept in
    let whole : c.in_ok-kept.kept.items ≡ c.args.piece.now = search rules in
    let noted : c.push_reserved.new.self.items ≡ me.calls.items ++ call ∷ [] = c.push_reserved.ensures.items ∙ ap (λ (l : List Call). l ++ call ∷ []) c.in_ok-reserve.ensures.items in
    let next : c.in_ok-next.next.items ≡ written me.bytes.items c.args.at c.args.piece.now = search rules in
    (next, (c.in_ok-kept.kept, whole, noted))
