use Rattle.std.proofs.Common.{inl, inr, rules}
use Rattle.std.specs.Prelude.{IsTrue}
use Rattle.signer_service.proofs.Desks.{also_so}
use Rattle.signer_service.proofs.signer.Signer.tell_header.Goals as goal

pub returns-then-holds : goal.returns-then-holds
returns-then-holds g c =
    let yes : IsTrue c.holds.result = search rules in
    inl (also_so _ _ _ (λ d holds. holds.0 yes) c.holds.ensures, c.tell_text.ensures)

pub returns-else-holds : goal.returns-else-holds
returns-else-holds g c =
    let no = c.if-holds in
    inr (also_so _ _ _ (λ d holds has. let yes = holds.1 has in search rules) c.holds.ensures, c.tell_missing.ensures)
