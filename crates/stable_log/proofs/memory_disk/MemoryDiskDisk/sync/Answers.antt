use Rattle.std.proofs.Common.{[], ◌∷◌, ◌++◌, ◌≡◌, ap, ◌∙◌}
use Rattle.stable_log.specs.declared.memory_disk.Call.TheVariants.{Sync}
use Rattle.stable_log.proofs.Memory.{sync_durable, sync_no_new, elapses_next}
use Rattle.stable_log.proofs.memory_disk.MemoryDiskDisk.sync.Goals as goal

pub returns-in-Ok-clause-durable : goal.returns-in-Ok-clause-durable
returns-in-Ok-clause-durable c =
    let me = c.args.self.now in
    let same = ap (λ v. v.items) (c.mark.ensures.first ∙ c.burns.ensures.first) in
    let noted : c.mark.new.self.calls.items ≡ me.calls.items ++ Sync ∷ [] = c.in-Ok.ensures.ok ∙ ap (λ v. v.items ++ Sync ∷ []) c.burns.ensures.calls in
    sync_durable me.first.items c.mark.new.self.first.items me.calls.items c.mark.new.self.calls.items me.bytes.items same me.replayed noted

pub returns-in-Ok-clause-crash : goal.returns-in-Ok-clause-crash
returns-in-Ok-clause-crash c =
    let me = c.args.self.now in
    let same = ap (λ v. v.items) (c.mark.ensures.first ∙ c.burns.ensures.first) in
    let noted : c.mark.new.self.calls.items ≡ me.calls.items ++ Sync ∷ [] = c.in-Ok.ensures.ok ∙ ap (λ v. v.items ++ Sync ∷ []) c.burns.ensures.calls in
    sync_no_new me.first.items c.mark.new.self.first.items me.calls.items c.mark.new.self.calls.items me.bytes.items same me.replayed noted

pub returns-in-Ok-clause-time : goal.returns-in-Ok-clause-time
returns-in-Ok-clause-time c =
    let me = c.args.self.now in
    let same = ap (λ v. v.items) (c.mark.ensures.first ∙ c.burns.ensures.first) in
    let noted : c.mark.new.self.calls.items ≡ me.calls.items ++ Sync ∷ [] = c.in-Ok.ensures.ok ∙ ap (λ v. v.items ++ Sync ∷ []) c.burns.ensures.calls in
    elapses_next me.first.items c.mark.new.self.first.items me.calls.items c.mark.new.self.calls.items Sync same noted
