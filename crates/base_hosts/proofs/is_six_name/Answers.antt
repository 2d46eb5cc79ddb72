use Rattle.std.proofs.Common.{◌∙◌, List, ℕ, rules, subst, sym}
use Rattle.std.specs.Prelude.{codes}
use Rattle.std.specs.Net.Grammar.{IsIpv6Text}
use Rattle.std.proofs.lemmas.List.{append_cancel_left, append_cancel_right}
use Rattle.base_hosts.specs.HostRules.{IsSixName}
use Rattle.base_hosts.proofs.is_six_name.Goals as goal

pub returns-in-Err : goal.returns-in-Err
unfolding IsSixName
returns-in-Err c = (
  search rules,
  λ h.
      let rest = append_cancel_left (codes "[") _ _ (sym h.1 ∙ c.in-Some.ensures) in
      let inside = append_cancel_right _ _ (codes "]") (rest ∙ c.in-Some-before.ensures) in
      absurd (c.in-Err.ensures h.2.0 (subst (λ (t : List ℕ). IsIpv6Text t h.2.0) inside h.2.1)),
)
