use Rattle.std.proofs.Common.{rules}
use Rattle.std.proofs.lemmas.Fn.{always_returns_same}
use Rattle.blocks.specs.Headers.{header_id}
use Rattle.ancestry.proofs.Ids.{ranked, header_found, header_missing}
use Rattle.ancestry.proofs.positions.place_of.Goals as goal

pub returns-in-Ok : goal.returns-in-Ok
returns-in-Ok c =
    let found = c.in-Ok.ensures.position (λ h. ranked (header_id h) c.args.id.now) (always_returns_same _ _ _ (λ a r f called. (search rules, search rules))) in
    (c.in-Ok.ensures.bound, header_found c.args.headers.now c.args.id.now c.in-Ok.k found)

pub returns-in-Err : goal.returns-in-Err
returns-in-Err c =
    header_missing c.args.headers.now c.args.id.now c.in-Err.field-0 c.requires (c.in-Err.ensures.position (λ h. ranked (header_id h) c.args.id.now) (always_returns_same _ _ _ (λ a r f called. (search rules, search rules))))
