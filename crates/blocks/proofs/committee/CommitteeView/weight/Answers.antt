use Rattle.std.proofs.Common.{◌≡◌, ◌≤◌, ℕ, List, sym, ◌∙◌, ap, arith, subst}
use Rattle.blocks.specs.Committees.{n_of, weight_at}
use Rattle.blocks.proofs.CommitteeLaws.{member_found, place_within, weight_here}
use Rattle.blocks.proofs.committee.CommitteeView.weight.Goals as goal

pub weight_at-requires : goal.weight_at-requires
weight_at-requires c =
    place_within c.self.inside.bytes.now c.args.r c.self.invariant.0 (omega (arith, c.requires, ap n_of c.self.view_is))

pub returns-clause-as_written : goal.returns-clause-as_written
returns-clause-as_written c members is =
    member_found members c.args.self.now c.args.r (λ m. c.weight_at.result ≡ m.weight) is c.requires (λ parts.
    c.weight_at.ensures ∙ ap (λ (b : List ℕ). weight_at b c.args.r) c.self.view_is ∙ parts.0)

pub returns-clause-least : goal.returns-clause-least
returns-clause-least c =
    let here = weight_here c.self.inside.bytes.now c.args.r c.self.invariant.0 (omega (arith, c.requires, ap n_of c.self.view_is)) in
    omega (arith, here.0, c.weight_at.ensures)
