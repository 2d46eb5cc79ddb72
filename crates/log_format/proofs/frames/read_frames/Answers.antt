use Rattle.log_format.proofs.Fronts.{shorter}
use Rattle.log_format.proofs.frames.read_frames.Goals as goal

pub loop-payload-smaller : goal.loop-payload-smaller
loop-payload-smaller c = shorter c.loop-payload.rest.now c.in-Frame.payload.now c.in-Frame.behind.now c.in-Frame.ensures.1
