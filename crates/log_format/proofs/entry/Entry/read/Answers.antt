use Rattle.std.proofs.Common.{arith}
use Rattle.log_format.proofs.EntryLaws.{found_of, only_of}
use Rattle.log_format.proofs.entry.Entry.read.Goals as goal

pub returns-clause-found : goal.returns-clause-found
returns-clause-found c = found_of c.args.bytes.now c.read_all.result (λ i. omega (arith, c.type_inv.bytes i)) c.read_all.ensures.ok

pub returns-clause-only : goal.returns-clause-only
returns-clause-only c e is no_want = only_of c.args.bytes.now c.read_all.result e c.read_all.ensures.ok c.read_all.ensures.first_refusal is no_want
