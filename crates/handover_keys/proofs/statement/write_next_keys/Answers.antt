use Rattle.std.proofs.Common.{arith}
use Rattle.std.proofs.lemmas.Grind.{common_steps}
use Rattle.std.proofs.lemmas.List.{length-map}
use Rattle.std.proofs.lemmas.List.Elements.{All-map}
use Rattle.lms_tree.specs.Keys.{IsPublicKey}
use Rattle.handover_keys.specs.NextKeys.{next_keys_text, public_key_text}
use Rattle.handover_keys.proofs.statement.write_next_keys.Goals as goal

pub returns-clause-spells : goal.returns-clause-spells
unfolding next_keys_text
returns-clause-spells c = record {
  parts = record {
    chain = omega arith;
    replica = omega arith;
    least = omega (arith, length-map c.args.keys.now public_key_text);
    most = omega (arith, length-map c.args.keys.now public_key_text);
    public_keys = All-map IsPublicKey public_key_text c.args.keys.now c.in_ok-put_keys.ensures.public_keys;
  };
  text = grind (arith, common_steps);
}
