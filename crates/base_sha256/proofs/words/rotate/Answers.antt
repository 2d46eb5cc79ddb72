use Rattle.base_sha256.proofs.VectorLemmas.{rotated}
use Rattle.base_sha256.proofs.words.rotate.Goals as goal

pub returns : goal.returns
returns c = rotated c.args.n c.requires.0 c.requires.1 c.args.x c.fits-x.0
