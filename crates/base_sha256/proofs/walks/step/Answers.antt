use Rattle.std.proofs.Common.{◌∙◌, ◌*◌, ◌<◌, ap, arith, slice_index, sym, List, ℕ}
use Rattle.sha2.specs.Sha256.{digest_bytes, padded_message}
use Rattle.base_sha256.specs.Chains.{chain_step}
use Rattle.base_sha256.specs.Lanes.{lane}
use Rattle.base_sha256.proofs.BlockLemmas.{length-link, link, word_front}
use Rattle.base_sha256.proofs.OneBlock.{one_block}
use Rattle.base_sha256.proofs.ValueLemmas.{length-digest}
use Rattle.base_sha256.proofs.walks.step.Goals as goal

pub returns : goal.returns
unfolding chain_step
returns c l lt prefix front five small =
    let j = slice_index c.args.j l in
    let d = digest_bytes (lane l c.args.v.now) 8 in
    let hd = length-digest (lane l c.args.v.now) in
    let long = length-link prefix d j front.rest.long hd in
    let b = padded_message (link prefix j d) in
    let begins = λ (k : ℕ) (low : k < 5). front.words k low ∙ sym (word_front prefix d j (4 * k) front.rest.long hd (omega arith)) in
    ap (λ (h : List ℕ). digest_bytes h 8) (c.compress.ensures l lt b (c.block-block.ensures l lt prefix front small) (five b begins))
    ∙ sym (one_block (link prefix j d) long)
