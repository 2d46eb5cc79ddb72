use Rattle.std.proofs.Common.{◌≡◌, ◌≤◌, drop}
use Rattle.vote_desk.specs.Receipts.{numbers_rise_from}
use Rattle.vote_desk.proofs.receipts.rise.Given as goal

abbrev pub invariant-loop-receipt : goal.invariant-loop-receipt
invariant-loop-receipt l = (numbers_rise_from 0 l.receipts ≡ numbers_rise_from l.least (drop l.receipt-index l.receipts)) × (l.least ≤ 4294967296)
