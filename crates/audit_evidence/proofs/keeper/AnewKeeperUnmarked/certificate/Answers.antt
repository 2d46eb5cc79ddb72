use Rattle.std.proofs.Common.{◌∙◌}
use Rattle.audit_evidence.proofs.NamedVotes.{if_ok}
use Rattle.audit_evidence.proofs.keeper.AnewKeeperUnmarked.certificate.Goals as goal

pub returns : goal.returns
returns c =
    if_ok c.new-3.result _ _ (λ kept is. is ∙ c.new-2.ensures ∙ c.in_ok-votes-2.ensures ∙ c.in_ok-votes.ensures) c.new-3.ensures
