use Rattle.std.proofs.lemmas.Nat.{be_bytes_4}
use Rattle.std.proofs.Common.{arith}
use Rattle.stable_log.proofs.reading.number.Goals as goal

pub returns : goal.returns
returns c = be_bytes_4 c.args.text.now c.from_be_bytes.result (omega arith) (λ i. let h = c.fits-text i in omega (arith, h)) c.from_be_bytes.ensures
