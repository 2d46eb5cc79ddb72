use Rattle.std.proofs.Common.{◌∙◌, ℕ, slice_index, ◌+◌, ◌*◌, ◌<◌, ◌≤◌, sym, lit<, lit≤, arith}
use Rattle.sha2.specs.Sha256.{digest_bytes}
use Rattle.base_sha256.specs.Lanes.{lane}
use Rattle.base_sha256.proofs.BlockLemmas.{end_sum, length-link, link, step_sum, word_end, word_front, word_step, word_value}
use Rattle.base_sha256.proofs.Counting.{below_sixteen}
use Rattle.base_sha256.proofs.LaneLemmas.{slice_index-lane}
use Rattle.base_sha256.proofs.OneBlock.{length_word, zero_word}
use Rattle.base_sha256.proofs.ValueLemmas.{end_in, first_byte, length-digest, straddling_in}
use Rattle.base_sha256.proofs.VectorLemmas.{slice_index-eight}
use Rattle.base_sha256.proofs.walks.block.Goals as goal

pub returns : goal.returns
returns c l lt prefix front small =
    let v = c.args.v.now in
    let j = slice_index c.args.j l in
    let d = digest_bytes (lane l v) 8 in
    let ht = front.rest.long in
    let hd = length-digest (lane l v) in
    let long = length-link prefix d j ht hd in
    let first = λ (k : ℕ) (low : k < 5) (room : 4 * k + 4 ≤ 22).
    sym (slice_index-lane c.args.front.now l k) ∙ front.words k low ∙ sym (word_front prefix d j (4 * k) ht hd room) in
    let rest = sym (slice_index-lane c.args.front.now l 5) ∙ front.rest.word in
    let inside = λ (k : ℕ) (low8 : k < 8) (low7 : k < 7).
    sym (word_value prefix d j (4 * k + 1) (4 * (k + 6)) ht hd (omega arith) (omega arith) ∙ straddling_in v l k low8 low7) in
    below_sixteen _
    (first 0 (lit< tt) (lit≤ tt)) (first 1 (lit< tt) (lit≤ tt)) (first 2 (lit< tt) (lit≤ tt)) (first 3 (lit< tt) (lit≤ tt))
    (first 4 (lit< tt) (lit≤ tt))
    (rw (c.behind_prefix.ensures l lt, rest, step_sum _ _ j _ front.rest.small_20 front.rest.small_21 small, ← first_byte v l) (sym (word_step prefix d j ht hd)))
    (c.straddling.ensures l lt ∙ inside 0 (lit< tt) (lit< tt)) (c.straddling-2.ensures l lt ∙ inside 1 (lit< tt) (lit< tt))
    (c.straddling-3.ensures l lt ∙ inside 2 (lit< tt) (lit< tt)) (c.straddling-4.ensures l lt ∙ inside 3 (lit< tt) (lit< tt))
    (c.straddling-5.ensures l lt ∙ inside 4 (lit< tt) (lit< tt)) (c.straddling-6.ensures l lt ∙ inside 5 (lit< tt) (lit< tt))
    (c.straddling-7.ensures l lt ∙ inside 6 (lit< tt) (lit< tt))
    (c.before_padding.ensures l lt ∙ end_sum _ ∙ end_in v l ∙ sym (word_end prefix d j ht hd))
    (slice_index-eight 0 l lt ∙ sym (zero_word (link prefix j d) long)) (slice_index-eight 440 l lt ∙ sym (length_word (link prefix j d) long))
