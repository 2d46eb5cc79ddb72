use Rattle.std.proofs.Common.{ℕ, List, take}
use Rattle.std.specs.List.{AllZip}
use Rattle.certificates.specs.Votes.{IsAnswerOn}
use Rattle.parallel_verify.specs.JudgedSources.{AreBadAmong}
use Rattle.parallel_verify.proofs.judging.bad_among.Given as goal

abbrev pub invariant-loop-k : goal.invariant-loop-k
invariant-loop-k l = (committee : List ℕ) → AllZip (IsAnswerOn committee) l.votes l.answers → AreBadAmong committee (take l.k l.votes) l.bad
