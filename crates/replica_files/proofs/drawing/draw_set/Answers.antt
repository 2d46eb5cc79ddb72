use Rattle.std.proofs.Common.{◌≡◌, ◌++◌, ◌∷◌, [], length, rules}
use Rattle.replica_files.proofs.Drawn.{as_many, drawn_more}
use Rattle.replica_files.proofs.drawing.draw_set.Goals as goal

pub loop-k-preserved : goal.loop-k-preserved
loop-k-preserved g c =
    let pushed : c.push.new.self.items ≡ c.loop-k.secrets.items ++ c.in_ok-secret.secret ∷ [] = search rules in
    drawn_more _ _ _ c.loop-k.k _ _ c.bound_id.result c.in_ok-secret.secret pushed c.bound_id.ensures c.loop-k.invariant c.in_ok-secret.ensures

pub returns-clause-most : goal.returns-clause-most
returns-clause-most g c =
    let many : length c.loop-k.secrets.items ≡ c.loop-k.k = as_many _ _ _ c.loop-k.k _ c.loop-k.invariant in
    search rules
