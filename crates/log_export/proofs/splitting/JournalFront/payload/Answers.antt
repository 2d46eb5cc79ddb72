use Rattle.std.proofs.Common.{◌≡◌, [], List, ℕ, arith, rules, subst, sym}
use Rattle.std.specs.Prelude.{slice_index_or}
use Rattle.std.proofs.lemmas.Grind.{common_steps}
use Rattle.base_wire.specs.Payloads.{IsPayload}
use Rattle.log_export.proofs.splitting.JournalFront.payload.Goals as goal

pub returns-clause-size : goal.returns-clause-size
returns-clause-size c =
    let value : c.index.result.now.now ≡ slice_index_or c.args.self.now.payloads c.args.k [] = grind (arith, common_steps) in
    subst IsPayload (sym value) (c.count-count.ensures.sound.sizes c.args.k [] c.requires)
