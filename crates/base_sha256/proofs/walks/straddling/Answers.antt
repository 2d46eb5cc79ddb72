use Rattle.base_sha256.proofs.BlockLemmas.{straddling_sum}
use Rattle.base_sha256.proofs.walks.straddling.Goals as goal

pub returns : goal.returns
returns c l lt = rw (c.add.ensures l lt, c.last_bytes.ensures l lt, c.first_byte.ensures l lt) (straddling_sum _ _)
