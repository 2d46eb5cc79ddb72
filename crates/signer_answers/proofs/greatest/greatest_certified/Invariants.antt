use Rattle.std.proofs.Common.{◌≡◌, ◌⊎◌, ◌≤◌, length, drop}
use Rattle.signer_answers.specs.Greatest.{FrameCertifies, IsGreatest, IsIn}
use Rattle.signer_answers.proofs.greatest.greatest_certified.Given as goal

abbrev pub invariant-loop-k : goal.invariant-loop-k
invariant-loop-k l = record {
  within : l.k ≤ length l.frames.frames;
  floor : (l.from ≤ l.k) ⊎ (l.k ≡ length l.frames.frames);
  greatest : IsGreatest (IsIn (FrameCertifies l.committee) (drop l.k l.frames.frames)) l.fn.before l.greatest;
}

abbrev pub decreases-loop-k : goal.decreases-loop-k
decreases-loop-k l = l.k
