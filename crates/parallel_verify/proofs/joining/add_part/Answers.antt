use Rattle.parallel_verify.proofs.Joinings.{part_joined, part_fault}
use Rattle.parallel_verify.proofs.joining.add_part.Goals as goal

pub returns-clause-ok : goal.returns-clause-ok
returns-clause-ok g c = part_joined c.merge_part.result c.args.gathered.now c.merge_part.new.gathered c.args.part.now c.merge_part.ensures.ok c.merge_part.ensures.report

pub returns-clause-err : goal.returns-clause-err
returns-clause-err g c = part_fault c.merge_part.result c.args.gathered.now c.args.part.now c.merge_part.ensures.err
