use Rattle.program_follow.proofs.Opened.{may_be_tried}
use Rattle.program_follow.proofs.reading.collect_from.Goals as goal

pub collect-requires-clause-tries : goal.collect-requires-clause-tries
collect-requires-clause-tries g c κs within = may_be_tried c.args.words.now c.in_ok-sources.sources.items c.in_ok-sources.ensures

pub returns-in-Ok-clause-shown : goal.returns-in-Ok-clause-shown
returns-in-Ok-clause-shown g c = record {
  under = c.requires.committee;
  of = record { sources = c.in_ok-sources.sources.items; opened = c.in_ok-sources.ensures };
  evidence = c.in-Ok.ensures.ok;
  caused = c.in-Ok.ensures.cause;
  sound = c.headers-headers.ensures.is_evidence;
}

pub returns-in-Err-Collision-clause-refused : goal.returns-in-Err-Collision-clause-refused
returns-in-Err-Collision-clause-refused g c = record {
  of = record { sources = c.in_ok-sources.sources.items; opened = c.in_ok-sources.ensures };
  first = c.in-Err-Collision.field-0-0;
  second = c.in-Err-Collision.field-0-1;
  collide = rw c.in-Err-Collision.field-0-is at c.in-Err-Collision.ensures.refused;
}
