use Rattle.std.proofs.Common.{◌∙◌}
use Rattle.log_handout.proofs.Pieces.{between}
use Rattle.log_handout.proofs.handout.frames_in.Goals as goal

pub returns-clause-cut : goal.returns-clause-cut
returns-clause-cut c = λ mid count is. c.in_ok-frames.ensures.ok ∙ between c.args.export.now mid count is
