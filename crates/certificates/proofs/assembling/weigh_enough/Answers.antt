use Rattle.blocks.proofs.CommitteeLaws.{size_of}
use Rattle.certificates.proofs.assembling.weigh_enough.Goals as goal

pub returns-then-quorum-weight-clause-few : goal.returns-then-quorum-weight-clause-few
returns-then-quorum-weight-clause-few c = (size_of c.args.committee.now c.quorum-quorum.ensures.is_committee).most

pub returns-clause-few : goal.returns-clause-few
returns-clause-few c = (size_of c.args.committee.now c.quorum-quorum.ensures.is_committee).most
