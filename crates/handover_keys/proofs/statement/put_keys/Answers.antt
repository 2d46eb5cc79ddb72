use Rattle.std.proofs.Common.{[]}
use Rattle.std.proofs.lemmas.List.Elements.{All-more}
use Rattle.lms_tree.specs.Keys.{IsPublicKey}
use Rattle.handover_keys.specs.NextKeys.{public_key_text}
use Rattle.handover_keys.proofs.NextKeysLaws.{put_more}
use Rattle.handover_keys.proofs.statement.put_keys.Goals as goal

pub loop-key-preserved : goal.loop-key-preserved
loop-key-preserved c = record {
  text =
      put_more c.args.text.now.items c.loop-key.text.items c.put_key.new.text.items c.args.keys.now c.loop-key.key-index
      (record { key_id = []; root = [] }) c.loop-key-test.true c.loop-key.invariant.text c.in_ok-put_key.ensures.text;
  public_keys =
      All-more (λ key. IsPublicKey (public_key_text key)) c.args.keys.now c.loop-key.key-index (record { key_id = []; root = [] })
      c.loop-key-test.true c.loop-key.invariant.public_keys c.put_key.ensures.public_key;
}
