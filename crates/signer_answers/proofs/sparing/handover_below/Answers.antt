use Rattle.std.proofs.Common.{◌≡◌, ℕ, List, rules, subst}
use Rattle.std.specs.Prelude.{MatchOption}
use Rattle.handover_blocks.specs.Handovers.{handover_mark}
use Rattle.replica_core.specs.Marks.{HasNoMarkedIn, IsFirstMarkedIn}
use Rattle.signer_answers.specs.BlockAnswers.{SomeOne}
use Rattle.signer_answers.proofs.sparing.handover_below.Goals as goal

pub returns : goal.returns
returns g c =
    let n = g.N.DeskNaming in
    let same : c.block.inside.parent ≡ c.args.block.now.parent = search rules in
    subst (λ (parent : List ℕ). SomeOne g.D.Disk n.committee n.replica n.opening (λ d. MatchOption c.first_marked.result (HasNoMarkedIn d.core handover_mark parent) (IsFirstMarkedIn d.core handover_mark parent)))
    same c.first_marked.ensures
