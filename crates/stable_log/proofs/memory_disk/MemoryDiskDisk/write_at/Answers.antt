use Rattle.std.proofs.Common.{[], ◌∷◌, ◌++◌, ◌≡◌, ap, ◌∙◌}
use Rattle.stable_log.specs.declared.memory_disk.Call.TheVariants.{Write}
use Rattle.stable_log.proofs.Memory.{write_follows, elapses_next}
use Rattle.stable_log.proofs.memory_disk.MemoryDiskDisk.write_at.Goals as goal

pub returns-in-Ok-clause-crash : goal.returns-in-Ok-clause-crash
returns-in-Ok-clause-crash c =
    let me = c.args.self.now in
    let same = ap (λ v. v.items) (c.store.ensures.first ∙ c.burns.ensures.first) in
    let kept = c.in-Ok.ensures.ok.1 in
    let noted : c.store.new.self.calls.items ≡ me.calls.items ++ Write c.args.at kept.0 ∷ [] = kept.2 ∙ ap (λ v. v.items ++ Write c.args.at kept.0 ∷ []) c.burns.ensures.calls in
    write_follows me.first.items c.store.new.self.first.items me.calls.items c.store.new.self.calls.items c.args.at kept.0 c.args.piece.now same kept.1 noted

pub returns-in-Ok-clause-time : goal.returns-in-Ok-clause-time
returns-in-Ok-clause-time c =
    let me = c.args.self.now in
    let same = ap (λ v. v.items) (c.store.ensures.first ∙ c.burns.ensures.first) in
    let kept = c.in-Ok.ensures.ok.1 in
    let noted : c.store.new.self.calls.items ≡ me.calls.items ++ Write c.args.at kept.0 ∷ [] = kept.2 ∙ ap (λ v. v.items ++ Write c.args.at kept.0 ∷ []) c.burns.ensures.calls in
    elapses_next me.first.items c.store.new.self.first.items me.calls.items c.store.new.self.calls.items (Write c.args.at kept.0) same noted
