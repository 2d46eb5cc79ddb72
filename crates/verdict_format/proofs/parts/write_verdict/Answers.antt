use Rattle.verdict_format.proofs.VerdictLaws.{written}
use Rattle.verdict_format.proofs.parts.write_verdict.Goals as goal

pub returns-clause-spells : goal.returns-clause-spells
returns-clause-spells c = record {
  parts = record {
    chain = c.put_head.ensures.chain;
    replica = c.in_ok-put_head.ensures.replica;
    earlier = c.put_vote.ensures.is_vote;
    later = c.put_vote-2.ensures.is_vote;
    shown = c.in_ok-put_shown.ensures.has_bytes;
  };
  text =
      written c.args.parts.now c.in_ok-text.text.items c.put_head.new.text.items c.put_vote.new.text.items c.put_vote-2.new.text.items c.put_shown.new.text.items
      c.in_ok-text.ensures.items c.in_ok-put_head.ensures.text c.in_ok-put_vote.ensures.text c.in_ok-put_vote-2.ensures.text c.in_ok-put_shown.ensures.text;
}
