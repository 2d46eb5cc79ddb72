use Rattle.std.proofs.Common.{◌≡◌, ◌++◌, map, take}
use Rattle.std.specs.List.{All, concat}
use Rattle.lms_tree.specs.Keys.{IsPublicKey}
use Rattle.handover_keys.specs.NextKeys.{public_key_text}
use Rattle.handover_keys.proofs.statement.put_keys.Given as goal

abbrev pub invariant-loop-key : goal.invariant-loop-key
invariant-loop-key l = record {
  text : l.text.items ≡ l.initial.text.items ++ concat (map public_key_text (take l.key-index l.keys));
  public_keys : All (λ key. IsPublicKey (public_key_text key)) (take l.key-index l.keys);
}
