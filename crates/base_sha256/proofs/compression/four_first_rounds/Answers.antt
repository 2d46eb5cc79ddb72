use Rattle.std.proofs.Common.{ℕ, ◌+◌, ◌<◌, ap, ◌∙◌, arith, sym}
use Rattle.sha2.specs.Sha256.{rounds, schedule}
use Rattle.base_sha256.proofs.LaneLemmas.{slice_index-lane}
use Rattle.base_sha256.proofs.compression.four_first_rounds.Goals as goal

pub returns : goal.returns
returns c l lt b h words held =
    let after = rounds h (schedule b 48) in
    let t = c.args.t in
    let word = λ (k : ℕ) (low : k < 16). sym (slice_index-lane c.args.words.now l k) ∙ words k low in
    let s1 = c.first_round-v.ensures l lt b h (word t (omega arith)) held in
    let s2 = c.first_round-v-2.ensures l lt b h (word (t + 1) (omega arith)) s1 in
    let s3 = c.first_round-v-3.ensures l lt b h (word (t + 2) (omega arith)) (s2 ∙ ap after (omega arith)) in
    c.first_round.ensures l lt b h (word (t + 3) (omega arith)) (s3 ∙ ap after (omega arith)) ∙ ap after (omega arith)
