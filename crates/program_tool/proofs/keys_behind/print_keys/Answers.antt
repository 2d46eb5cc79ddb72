use Rattle.std.proofs.Common.{◌∙◌, List, ℕ, subst}
use Rattle.base_streams.specs.Streams.{Wrote}
use Rattle.program_tool.proofs.keys_behind.print_keys.Goals as goal

pub returns-in-Ok-clause-printed : goal.returns-in-Ok-clause-printed
returns-in-Ok-clause-printed g c =
    let made = c.in_ok-lines.ensures.made in
    record {
      behind = c.in-Some.behind;
      theirs = c.in-Some.ensures;
      keys = made.0;
      are = made.1;
      wrote = subst (λ (text : List ℕ). Wrote (g.W.Sink.text c.args.out.now) (g.W.Sink.text c.write_all.new.out) text) (c.deref.ensures.value ∙ made.2) c.in-Ok.ensures.ok;
    }
