use Rattle.std.proofs.Common.{◌≡◌, ℕ, List, ◌∙◌, ap, arith}
use Rattle.std.specs.Prelude.{length}
use Rattle.blocks.specs.Committees.{n_of, keys_of}
use Rattle.blocks.proofs.CommitteeLaws.{member_found, place_within, count_here, room_below}
use Rattle.blocks.proofs.committee.CommitteeView.keys.Goals as goal

pub keys_of-requires : goal.keys_of-requires
keys_of-requires c =
    place_within c.self.inside.bytes.now c.args.r c.self.invariant.0 (omega (arith, c.requires, ap n_of c.self.view_is))

pub overflow_cast-result : goal.overflow_cast-result
overflow_cast-result c =
    let bytes = c.self.inside.bytes.now in
    let here = count_here bytes c.args.r c.self.invariant.0 (omega (arith, c.requires, ap n_of c.self.view_is)) in
    omega (arith, here.1, room_below bytes, c.keys_of.ensures)

pub returns-clause-as_written : goal.returns-clause-as_written
returns-clause-as_written c members is =
    member_found members c.args.self.now c.args.r (λ m. c.keys_of.result ≡ length m.keys) is c.requires (λ parts.
    c.keys_of.ensures ∙ ap (λ (b : List ℕ). keys_of b c.args.r) c.self.view_is ∙ parts.1)

pub returns-clause-least : goal.returns-clause-least
returns-clause-least c =
    let here = count_here c.self.inside.bytes.now c.args.r c.self.invariant.0 (omega (arith, c.requires, ap n_of c.self.view_is)) in
    omega (arith, here.0, c.keys_of.ensures)

pub returns-clause-most : goal.returns-clause-most
returns-clause-most c =
    let bytes = c.self.inside.bytes.now in
    let here = count_here bytes c.args.r c.self.invariant.0 (omega (arith, c.requires, ap n_of c.self.view_is)) in
    omega (arith, here.1, room_below bytes, c.keys_of.ensures)
