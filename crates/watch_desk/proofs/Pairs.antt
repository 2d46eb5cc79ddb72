-- The votes that a verdict is of.
use Rattle.std.proofs.Common.{◌≡◌, ℕ, List, ap, subst}
use Rattle.blocks.specs.declared.ballot.Ballot.{Ballot}
use Rattle.verdict_format.proofs.VerdictLaws.{verdict_again}
use Rattle.verdict_format.specs.VerdictText.{IsVerdictOf, parts_in}
use Rattle.verdict_format.specs.Verdicts.{verdict_kind_in}
use Rattle.verdict_format.specs.declared.parts.BoundVote.{BoundVote}
use Rattle.verdict_format.specs.declared.parts.VerdictParts.{VerdictParts}
use Rattle.watch_report.specs.Proved.{pair_in}
use Rattle.watch_report.specs.declared.proved.Pair.{Pair}

abbrev vote_of : BoundVote → Ballot
vote_of v = record { view = v.view; id = v.id }

abbrev made_of : ℕ → VerdictParts → Pair
made_of rule p = record { rule = rule; earlier = vote_of p.earlier; later = vote_of p.later }

pub pair_of : (bytes : List ℕ) (p : VerdictParts) (rule : ℕ) → IsVerdictOf bytes p → rule ≡ verdict_kind_in bytes → made_of rule p ≡ pair_in bytes
pair_of bytes p rule is kind =
    subst (λ (q : VerdictParts). made_of rule q ≡ pair_in bytes) (verdict_again bytes p is).1 (ap (λ (n : ℕ). made_of n (parts_in bytes)) kind)
