use Rattle.std.proofs.Common.{rules}
use Rattle.handover_steps.proofs.Decided.{changed_exact, is_changed, one_answer}
use Rattle.handover_steps.proofs.file_slots.changed_weight.Goals as goal

pub returns : goal.returns
returns c = record {
  is_changed = is_changed c.args.old.now c.args.new.now;
  exact = changed_exact c.args.old.now c.args.new.now;
  sum = c.weight_of.ensures (is_changed c.args.old.now c.args.new.now) (λ r answer below called. one_answer answer _ (search rules) (changed_exact c.args.old.now c.args.new.now r));
}
