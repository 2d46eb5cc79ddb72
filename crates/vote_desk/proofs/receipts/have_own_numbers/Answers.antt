use Rattle.vote_desk.proofs.Numbers.{own_where}
use Rattle.vote_desk.proofs.receipts.have_own_numbers.Goals as goal

pub returns : goal.returns
returns c = own_where c.args.receipts.now c.rise.result c.rise.ensures c.requires
