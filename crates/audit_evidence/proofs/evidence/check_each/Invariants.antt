use Rattle.std.proofs.Common.{take}
use Rattle.std.specs.List.{AllZip}
use Rattle.certificates.specs.Votes.{IsAnswerOn}
use Rattle.audit_evidence.proofs.evidence.check_each.Given as goal

abbrev pub invariant-loop-vote : goal.invariant-loop-vote
invariant-loop-vote l = AllZip (IsAnswerOn l.committee) (take l.vote-index l.votes) l.answers.items
