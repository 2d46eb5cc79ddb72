use Rattle.std.proofs.Common.{ℕ, ◌<◌, ◌∙◌, lit<, sym}
use Rattle.sha2.specs.Sha256.{initial_hash_256, rounds}
use Rattle.base_sha256.proofs.LaneLemmas.{slice_index-lane}
use Rattle.base_sha256.proofs.compression.five_rounds.Goals as goal

pub returns : goal.returns
unfolding rounds
returns c l lt b begins =
    let h = initial_hash_256 in
    let word = λ (k : ℕ) (low : k < 5). sym (slice_index-lane c.args.words.now l k) ∙ begins k low in
    let s1 = c.first_round-v.ensures l lt b h (word 0 (lit< tt)) (c.initial_hashes.ensures l lt) in
    let s2 = c.first_round-v-2.ensures l lt b h (word 1 (lit< tt)) s1 in
    let s3 = c.first_round-v-3.ensures l lt b h (word 2 (lit< tt)) s2 in
    let s4 = c.first_round-v-4.ensures l lt b h (word 3 (lit< tt)) s3 in
    c.first_round.ensures l lt b h (word 4 (lit< tt)) s4
