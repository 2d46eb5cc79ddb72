use Rattle.watch_web.proofs.watcher.answer_by.Goals as goal

pub returns : goal.returns
returns c = record { seen = c.args.seen.now; second = c.args.second; answer = c.in_ok-answer.ensures }
