use Rattle.base_sha256.proofs.VectorLemmas.{shifted_right}
use Rattle.base_sha256.proofs.words.shift.Goals as goal

pub returns : goal.returns
returns c = shifted_right c.args.n c.args.x c.fits-x.0
