use Rattle.stable_log.proofs.Written.{room_behind}
use Rattle.stable_log.proofs.calls.write_payload.Goals as goal

pub write_synced-requires-2 : goal.write_synced-requires-2
write_synced-requires-2 g c = room_behind _ _ c.args.gate_at c.args.text.now c.in_ok-write_synced.ensures.told c.requires.inside
