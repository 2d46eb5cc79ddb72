use Rattle.std.proofs.Common.{ap, length, subst, sym, ◌∙◌}
use Rattle.base_streams.specs.Streams.{Wrote}
use Rattle.blocks.specs.Committees.{IsCommittee}
use Rattle.handover_renewals.specs.Endorsed.{texts_of}
use Rattle.handover_renewals.proofs.Endorsing.{length-texts_of}
use Rattle.program_tool.proofs.renewal.renewal.Goals as goal

pub returns-in-Ok-clause-printed : goal.returns-in-Ok-clause-printed
returns-in-Ok-clause-printed g c =
    let found = c.in_ok-old.ensures.found in
    record {
      old = c.in_ok-old.old;
      is_committee = subst IsCommittee (sym found.0) found.1;
      endorsements = texts_of c.deref-2.result.now;
      many = length-texts_of c.deref-2.result.now ∙ ap (λ ts. length ts) c.deref-2.ensures.value ∙ c.in_ok-texts.ensures.many;
      made = c.in_ok-made.made;
      is_made = c.in_ok-made.ensures.made;
      wrote =
          subst (Wrote (g.W.Sink.text c.args.out.now) (g.W.Sink.text c.write_all.new.out)) (c.deref-3.ensures.value ∙ c.in_ok-lines.ensures.text) c.in-Ok.ensures.ok;
    }
