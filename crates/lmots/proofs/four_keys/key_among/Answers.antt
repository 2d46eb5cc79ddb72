use Rattle.std.proofs.Common.{◌*◌, ◌+◌, ◌-◌, ◌<◌, [], drop, ◌∙◌, arith}
use Rattle.std.proofs.lemmas.List.{get_or-take, get_or-drop}
use Rattle.lmots.proofs.FourKeyLemmas.{end_of_key}
use Rattle.lmots.proofs.four_keys.key_among.Goals as goal

pub returns : goal.returns
returns c = c.key_of_ends.ensures.of_seed c.args.secret.now.seed (λ i lt.
    let secret = c.args.secret.now in
    let ends = c.args.ends.now in
    let first = c.args.k * 34 in
    let within : i < first + 34 - first = omega (arith, lt) in
    get_or-take (first + 34 - first) (drop first ends) i [] within
    ∙ get_or-drop first ends i []
    ∙ c.requires.ends (first + i) (omega (arith, c.requires.four, lt))
    ∙ end_of_key secret.key_id secret.seed c.args.q c.args.k i lt)
