use Rattle.std.proofs.Common.{◌+◌, List, ℕ, rules, subst}
use Rattle.std.specs.Prelude.{◌↔◌, IsTrue}
use Rattle.std.proofs.lemmas.List.{take_rest}
use Rattle.program_parts.specs.Words.{IsPort}
use Rattle.program_parts.proofs.Addresses.{address_of, host_of, no_address}
use Rattle.program_parts.proofs.words.is_address.Goals as goal

pub returns-then-is_host : goal.returns-then-is_host
returns-then-is_host c =
    let text = c.args.text.now in
    let colon = c.in-Some.colon in
    let port = subst (λ (t : List ℕ). IsTrue c.is_port.result ↔ IsPort t) (take_rest text (colon + 1)) c.is_port.ensures in (
      λ yes. address_of text colon c.in-Some.ensures (c.is_host.ensures.0 c.if-is_host.true) (port.0 yes),
      λ a. port.1 (host_of text colon c.in-Some.ensures a).1,
    )

pub returns-else-is_host : goal.returns-else-is_host
returns-else-is_host c = (λ yes. search rules, λ a. c.is_host.ensures.1 (host_of c.args.text.now c.in-Some.colon c.in-Some.ensures a).0)

pub returns-in-None : goal.returns-in-None
returns-in-None c = (λ yes. search rules, λ a. absurd (no_address c.args.text.now c.in-None.ensures a))
