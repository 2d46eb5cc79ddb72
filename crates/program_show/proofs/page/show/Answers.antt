use Rattle.std.proofs.Common.{ℕ, List, ap, ◌∙◌}
use Rattle.stable_log.proofs.Told.{ok_maps}
use Rattle.program_show.specs.Lines.{seed_line}
use Rattle.program_show.proofs.Longer.{seed_of_front}
use Rattle.program_show.proofs.page.show.Goals as goal

pub returns-in-Seed-clause-secret : goal.returns-in-Seed-clause-secret
returns-in-Seed-clause-secret c long =
    ok_maps c.seed_page.result _ _ c.seed_page.ensures
    (λ p shown. shown.0 ∙ ap (λ (b : List ℕ). seed_line b) c.deref-in-Seed.ensures.value ∙ seed_of_front c.args.bytes.items)
