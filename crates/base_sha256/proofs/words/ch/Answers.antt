use Rattle.base_sha256.proofs.VectorLemmas.{chs}
use Rattle.base_sha256.proofs.words.ch.Goals as goal

pub returns : goal.returns
returns c = chs c.args.x c.args.y c.args.z c.fits-x.0 c.fits-y.0 c.fits-z.0
