use Rattle.signer_service.proofs.Counted.{counted_once}
use Rattle.signer_service.proofs.laws.each_is_counted_once.Goals as goal

pub returns : goal.returns
returns c n low low' = counted_once n low low'
