use Rattle.base_sha256.proofs.VectorLemmas.{shifted_left}
use Rattle.base_sha256.proofs.words.last_bytes.Goals as goal

pub returns : goal.returns
returns c = shifted_left 8 c.args.x c.fits-x.0
