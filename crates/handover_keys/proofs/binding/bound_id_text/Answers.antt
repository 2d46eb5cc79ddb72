use Rattle.std.proofs.Common.{[], ◌∷◌, arith}
use Rattle.byteorder.specs.Endian.{big_bytes}
use Rattle.handover_keys.specs.BoundIds.{bound_id_text}
use Rattle.handover_keys.proofs.EndorsementLaws.{four_parts}
use Rattle.handover_keys.proofs.binding.bound_id_text.Goals as goal

pub returns : goal.returns
unfolding bound_id_text
returns c =
    four_parts _ c.args.chain.now (big_bytes 2 c.args.replica) (c.args.key ∷ []) c.put.new.bytes c.put-2.new.bytes c.put-3.new.bytes c.put-4.new.bytes (omega arith) (omega arith)
    c.put.ensures.written c.put-2.ensures.written (rw c.to_be_bytes.ensures at c.put-3.ensures.written) c.put-4.ensures.written
