use Rattle.std.proofs.Common.{◌≢◌, ap, sym, ◌∙◌, arith}
use Rattle.std.proofs.lemmas.Bool.{false≢true}
use Rattle.blocks.specs.Headers.{Header, header_id}
use Rattle.ancestry.specs.Known.{Known}
use Rattle.ancestry.proofs.Ids.{known_position, genesis_at, ids_decide}
use Rattle.ancestry.proofs.positions.position_of.Goals as goal

pub returns-then-eq : goal.returns-then-eq
returns-then-eq c =
    let known : Known = record { genesis = c.args.genesis.now; headers = c.args.headers.now } in
    (omega arith, ap (λ (h : Header). header_id h) (genesis_at known _ (omega arith)) ∙ sym c.id.ensures ∙ (ids_decide _ _ _ c.eq.ensures).0 c.if-eq.true)

pub returns : goal.returns
returns c =
    let known : Known = record { genesis = c.args.genesis.now; headers = c.args.headers.now } in
    let other : header_id known.genesis ≢ c.args.id.now = λ same. false≢true (sym c.if-eq.false ∙ (ids_decide _ _ _ c.eq.ensures).1 (c.id.ensures ∙ same)) in
    known_position known c.args.id.now c.place_of.result other c.place_of.ensures
